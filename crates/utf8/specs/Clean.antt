-- Languages of whole allowed characters, and that the combinators make such of such. Assumes nothing.
use Rattle.std.specs.Prelude.{◌≡◌, refl, List, [], ◌∷◌, ◌++◌, ◌⊎◌, Bool, true, false, ℕ, zero, suc, leb}
use Rattle.std.proofs.Common.{inl, inr}
use Rattle.notation.specs.Lang.{Here, here, Word, Plus, Map, Such, Indented}
use Rattle.exact.specs.Verdict.{Tail, Begins}
use Rattle.exact.specs.Class.{pick, clash, Class, and, or, is, apart, and_of, or_of, none, is_right, sub, inside, only}
use Rattle.exact.specs.Lang.{Lang, Then, Ret, Byte, End, ret, byte, end}
use Rattle.exact.specs.Comb.{Seq, Alt, Star, one, two, nil, cons}
use Rattle.exact.specs.Run.{Run, Laws, lives, stay, ahead}
use Rattle.exact.specs.Grow.{Sub}
use Rattle.language.specs.Characters.{ascii, Char, char, character, wide, Allowed}
use Rattle.utf8.specs.Char.{char_spelt}
use Rattle.utf8.specs.Utf8.{At, Arrow, table, follow, full, Classes, start, ◌to-be◌}
use Rattle.utf8.specs.Whole.{every, step, scan, whole, from_full, whole_run}

-- A CLEAN LANGUAGE is one of whole allowed characters. The combinators keep this.
pub record Clean {X : Type 0} (A : Lang X) : Type 0 where
  pub clean : {at : ℕ} {s : List ℕ} {v : X} {at' : ℕ} {t : List ℕ} → A at s v at' t → whole (scan start t) ≡ true → whole (scan start s) ≡ true

pub ret_clean : {X : Type 0} (v : X) → Clean (Ret v)
ret_clean {X} v = record { clean = go }
  where
    go : {at : ℕ} {s : List ℕ} {v' : X} {at' : ℕ} {t : List ℕ} → Ret v at s v' at' t → whole (scan start t) ≡ true → whole (scan start s) ≡ true
    go ret h = h

pub here_clean : Clean Here
here_clean = record { clean = go }
  where
    go : {at : ℕ} {s : List ℕ} {v at' : ℕ} {t : List ℕ} → Here at s v at' t → whole (scan start t) ≡ true → whole (scan start s) ≡ true
    go here h = h

-- a byte below 128 is a character
abbrev plainly : Class → At → Bool
plainly c σ = or (apart c ascii) (full σ)

plain_full : (rows : List Arrow) (b : ℕ) → every plainly rows ≡ true → is (Classes rows) b ≡ true → is ascii b ≡ true → full (follow rows b) ≡ true
plain_full [] b h e a = absurd (clash e refl)
plain_full ((c to-be σ) ∷ rows) b h e a = by (is c b) refl (and_of (plainly c σ) (every plainly rows) h) (plain_full rows b)
  where
    by : (x : Bool) → is c b ≡ x → (plainly c σ ≡ true) × (every plainly rows ≡ true)
        → (every plainly rows ≡ true → is (Classes rows) b ≡ true → is ascii b ≡ true → full (follow rows b) ≡ true) → full (pick x σ (follow rows b)) ≡ true
    by true x y ih = pick_full (or_of (apart c ascii) (full σ) y.0)
      where
        pick_full : (apart c ascii ≡ true) ⊎ (full σ ≡ true) → full σ ≡ true
        pick_full (inl z) = absurd (none c ascii b z x a)
        pick_full (inr z) = z
    by false x y ih = ih y.1 (is_right c (Classes rows) b x e) a

byte_whole : (c : Class) → sub c ascii ≡ true → (b : ℕ) (s : List ℕ) → is c b ≡ true → whole (scan start s) ≡ true → whole (scan start (b ∷ s)) ≡ true
byte_whole c h b s e w =
    let a = inside c ascii b h e in
    from_full (step start b) s (plain_full (table ascii start) b refl (inside ascii (Classes (table ascii start)) b refl a) a) w

pub byte_clean : (c : Class) → sub c ascii ≡ true → Clean (Byte (is c))
byte_clean c h = record { clean = go }
  where
    go : {at : ℕ} {s : List ℕ} {v at' : ℕ} {t : List ℕ} → Byte (is c) at s v at' t → whole (scan start t) ≡ true → whole (scan start s) ≡ true
    go (byte {b = b} {s = s} e) w = byte_whole c h b s e w

pub sub_clean : {X : Type 0} {A B : Lang X} → Sub A B → Clean B → Clean A
sub_clean e c = record { clean = λ x. c.clean (e.sub x) }

-- fewer characters below 128, fewer characters
pub char_clean : (c : Class) → sub c ascii ≡ true → Clean (Char c)
char_clean c h = record { clean = go }
  where
    more : (v : ℕ) → character c v ≡ true → character ascii v ≡ true
    more v e = by (leb v 127) e
      where
        by : (x : Bool) → pick x (is c v) (wide v) ≡ true → pick x (is ascii v) (wide v) ≡ true
        by true y = inside c ascii v h y
        by false y = y

    go : {at : ℕ} {s v : List ℕ} {at' : ℕ} {t : List ℕ} → Char c at s v at' t → whole (scan start t) ≡ true → whole (scan start s) ≡ true
    go (char {at = at} {t = t} v e) w = whole_run (char_spelt ascii (char {at = at} {t = t} v (more v e))) w

pub seq_clean : {X Y : Type 0} {A : Lang X} {B : X → Lang Y} → Clean A → ((x : X) → Clean (B x)) → Clean (Seq A B)
seq_clean c d = record { clean = λ x h. c.clean x.first ((d x.value).clean x.second h) }

pub alt_clean : {X : Type 0} {A B : Lang X} → Clean A → Clean B → Clean (Alt A B)
alt_clean {X} {A} {B} c d = record { clean = go }
  where
    go : {at : ℕ} {s : List ℕ} {v : X} {at' : ℕ} {t : List ℕ} → Alt A B at s v at' t → whole (scan start t) ≡ true → whole (scan start s) ≡ true
    go (one x) h = c.clean x h
    go (two x) h = d.clean x h

pub star_clean : {X : Type 0} {A : Lang X} → Clean A → Clean (Star A)
star_clean {X} {A} c = record { clean = go }
  where
    go : {at : ℕ} {s : List ℕ} {v : List X} {at' : ℕ} {t : List ℕ} → Star A at s v at' t → whole (scan start t) ≡ true → whole (scan start s) ≡ true
    go nil h = h
    go (cons x y) h = c.clean x (go y h)

pub plus_clean : {X : Type 0} {A : Lang X} → Clean A → Clean (Plus A)
plus_clean c = seq_clean c λ v. seq_clean (star_clean c) λ vs. ret_clean (v ∷ vs)

pub map_clean : {X Y : Type 0} (g : X → Y) {A : Lang X} → Clean A → Clean (Map g A)
map_clean g c = seq_clean c λ v. ret_clean (g v)

pub such_clean : {X : Type 0} (f : X → Bool) {A : Lang X} → Clean A → Clean (Such f A)
such_clean f c = record { clean = λ x h. c.clean x.word h }

pub indented_clean : {X : Type 0} (n : ℕ) {A : Lang X} → Clean A → Clean (Indented n A)
indented_clean zero c = c
indented_clean (suc n) c = seq_clean (byte_clean (only 32) refl) λ _. indented_clean n c

abbrev sub_all : List ℕ → Bool
sub_all [] = true
sub_all (b ∷ bs) = and (sub (only b) ascii) (sub_all bs)

-- a machine that goes on by bytes of c alone
pub run_clean : {S : Type 0} {next' : S → ℕ → S} {full' live' : S → Bool} {G : List ℕ → Type 0} (c : Class) → sub c ascii ≡ true → Laws next' full' live' G
    → ((σ : S) (b : ℕ) → live' (next' σ b) ≡ true → is c b ≡ true) → (σ : S) → Clean (Run next' full' live' σ)
run_clean {S} {next'} {full'} {live'} c h laws' g σ = record { clean = go }
  where
    go : {σ : S} {at : ℕ} {s w : List ℕ} {at' : ℕ} {t : List ℕ} → Run next' full' live' σ at s w at' t → whole (scan start t) ≡ true → whole (scan start s) ≡ true
    go (stay e) w = w
    go (ahead {σ = σ} {b = b} {s = s} x) w = byte_whole c h b s (g σ b (lives next' full' live' laws' x)) (go x w)

pub word_clean : (bs : List ℕ) → sub_all bs ≡ true → Clean (Word bs)
word_clean [] h = ret_clean 0
word_clean (b ∷ bs) h = let x = and_of (sub (only b) ascii) (sub_all bs) h in seq_clean (byte_clean (only b) x.0) λ _. word_clean bs x.1

pub end_clean : {X : Type 0} {v : X} {a : ℕ} {t : List ℕ} {w : X} → End v a t w → whole (scan start t) ≡ true
end_clean end = refl
