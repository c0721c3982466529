-- TEXTS IN THEIR BYTES: a text that was read, with its escapes, is not longer than the bytes it was read from. Characters, comments, and lists of what was read. Assumes nothing.
use Rattle.std.specs.Prelude.{◌≡◌, refl, List, [], ◌∷◌, ◌++◌, Bool, true, false, ℕ, suc, ◌+◌, ◌≤◌, ◌<◌, length, leb}
use Rattle.std.proofs.Common.{arith, length-append}
use Rattle.notation.specs.Class.{pick, Class}
use Rattle.notation.specs.Lang.{Lang, Byte, Map, Star, Plus, cat}
use Rattle.language.specs.Tree.{Decoded, unescaped, together}
use Rattle.language.specs.Characters.{utf8, Char, char, Piece, Comment, Option, LineComment}
use Rattle.spans.specs.Onward.{Onward}
use Rattle.spans.specs.Every.{Every, InFront, ret_every, byte_every, byte_then, bind_every, via, map_every, alt_every, star_every, plus_every, word_then}

-- the bytes s were read from `at` up to at'
abbrev pub Fits : ℕ → List ℕ → ℕ → Type 0
Fits at s at' = at + length s ≤ at'

-- and a byte or more was read
abbrev pub Some : ℕ → List ℕ → ℕ → Type 0
Some at s at' = Fits at s at' × (at < at')

-- pieces, put together
abbrev pub FitsAll : ℕ → List (List ℕ) → ℕ → Type 0
FitsAll at ws at' = at + length (cat ws) ≤ at'

-- the decoded text s was: an escape is a byte longer than what it stands for, or more, so that the text's bytes and its escapes together are not more than the bytes read
abbrev pub FitsText : ℕ → Decoded → ℕ → Type 0
FitsText at s at' = at + (length s.bytes + s.escapes) ≤ at'

abbrev pub SomeText : ℕ → Decoded → ℕ → Type 0
SomeText at s at' = FitsText at s at' × (at < at')

-- decoded texts, put together
abbrev pub FitsTexts : ℕ → List Decoded → ℕ → Type 0
FitsTexts at ss at' = FitsText at (together ss) at'

-- nothing but that places go on
abbrev pub Goes : {X : Type 0} → ℕ → X → ℕ → Type 0
Goes at v at' = at ≤ at'

-- that a byte or more was read
abbrev pub Steps : {X : Type 0} → ℕ → X → ℕ → Type 0
Steps at v at' = at < at'

pub joined : (s t : List ℕ) → length (s ++ t) ≡ length s + length t
joined s t = length-append s t

module _ {X : Type 0} {A : Lang X} where
  pub star_goes : ((at : ℕ) → Every A at (Goes at)) → (at : ℕ) → Every (Star A) at (Goes at)
  star_goes g at = star_every (λ at vs at'. Goes at vs at') (λ at. omega arith) (λ at. via (g at) (λ v m h vs at' k. omega arith)) at

-- numbers, each of a byte or more
module _ {A : Lang ℕ} (g : (at : ℕ) → Every A at (Steps at)) where
  pub star_fits : (at : ℕ) → Every (Star A) at (Fits at)
  star_fits at = star_every Fits (λ at. omega arith) (λ at. via (g at) (λ v m h vs at' k. omega arith)) at

  pub plus_some : (at : ℕ) → Every (Plus A) at (Some at)
  plus_some at = plus_every Fits star_fits (via (g at) (λ v m h vs at' k. (omega arith, omega arith)))

-- pieces, put together
module _ {A : Lang (List ℕ)} (g : (at : ℕ) → Every A at (Fits at)) where
  cat_more : (at : ℕ) → Every A at (InFront FitsAll (FitsAll at))
  cat_more at = via (g at) (λ v m h vs at' k. omega (arith, joined v (cat vs)))

  pub star_cat : (at : ℕ) → Every (Star A) at (FitsAll at)
  star_cat at = star_every FitsAll (λ at. omega arith) cat_more at

  pub plus_cat : (at : ℕ) → Every (Plus A) at (FitsAll at)
  plus_cat at = plus_every FitsAll star_cat (cat_more at)

-- bytes without escapes are a text as long as they are
pub plain_fit : (at : ℕ) (s : List ℕ) {at' : ℕ} → Fits at s at' → FitsText at (unescaped s) at'
plain_fit at s h = omega arith

pub plain_fits : {A : Lang (List ℕ)} {at : ℕ} → Every A at (Fits at) → Every (Map unescaped A) at (FitsText at)
plain_fits {at = at} g = map_every unescaped (via g (λ s m h. plain_fit at s h))

-- decoded texts, put together
pub star_together : {A : Lang Decoded} → ((at : ℕ) → Every A at (FitsText at)) → (at : ℕ) → Every (Star A) at (FitsTexts at)
star_together g at = star_every FitsTexts (λ at. omega arith) (λ at. via (g at) (λ s m h ss at' k. omega (arith, joined s.bytes (together ss).bytes))) at

pub byte_steps : {f : ℕ → Bool} (at : ℕ) → Every (Byte f) at (Steps at)
byte_steps at = byte_every (λ b. omega arith)

pub option_fits : {A : Lang (List ℕ)} (at : ℕ) → Every A at (Fits at) → Every (Option A) at (Fits at)
option_fits at g = alt_every g (ret_every (omega arith))

pub option_goes : {A : Lang (List ℕ)} (at : ℕ) → Every A at (Goes at) → Every (Option A) at (Goes at)
option_goes at g = alt_every g (ret_every (omega arith))

-- a character has its own bytes, at most four
pub char_every : {c : Class} {at : ℕ} {R : List ℕ → ℕ → Type 0} → ((s : List ℕ) (m : ℕ) → m ≡ at + length s → R s m) → Every (Char c) at R
char_every {c} {at} {R} k = record { has = go; moves = on }
  where
    go : {s v : List ℕ} {at' : ℕ} {t : List ℕ} → Char c at s v at' t → R v at'
    go (char v e) = k (utf8 v) _ refl

    on : {s v : List ℕ} {at' : ℕ} {t : List ℕ} → Char c at s v at' t → Onward at s at' t
    on (char v e) = record { passed = utf8 v; text = refl; place = refl }

pub char_fits : {c : Class} (at : ℕ) → Every (Char c) at (Fits at)
char_fits at = char_every (λ s m h. omega arith)

pub pick_le : {n : ℕ} (x : Bool) (l m : List ℕ) → length l ≤ n → length m ≤ n → length (pick x l m) ≤ n
pick_le true l m h k = h
pick_le false l m h k = k

pub utf8_four : (v : ℕ) → length (utf8 v) ≤ 4
utf8_four v = pick_le (leb v 127) _ _ (omega arith) (pick_le (leb v 2047) _ _ (omega arith) (pick_le (leb v 65535) _ _ (omega arith) (omega arith)))

-- spaces and one character; a comment
pub piece_fits : (at : ℕ) → Every Piece at (Fits at)
piece_fits at = bind_every (star_fits byte_steps at) (λ ss m h. bind_every (char_fits m) (λ c n k. ret_every (omega (arith, joined ss c))))

pub comment_goes : (at : ℕ) → Every Comment at (Goes at)
comment_goes at = byte_then (λ b. map_every cat (via (star_cat piece_fits (suc at)) (λ v m h. omega arith)))

pub line_comment_goes : (at : ℕ) → Every LineComment at (Goes at)
line_comment_goes at = word_then (32 ∷ 32 ∷ []) (λ m h. via (comment_goes m) (λ v n k. omega arith))
