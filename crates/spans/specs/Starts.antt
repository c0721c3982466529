-- LANGUAGES THAT START with an ASCII byte: the text that any word of theirs is read from has one in front. Assumes nothing.
use Rattle.std.specs.Prelude.{◌≡◌, refl, List, [], ◌∷◌, Bool, true, false, ℕ, ◌≤◌, ◌<◌, get_or, leb}
use Rattle.std.proofs.lemmas.Bool.{false≢true}
use Rattle.std.proofs.Common.{arith, leb-true}
use Rattle.notation.specs.Class.{and, or, ◌to◌, Class, within, is, only}
use Rattle.notation.specs.Lang.{Lang, ret, Byte, byte, Seq, one, two, Word}
use Rattle.language.specs.Characters.{Option}
use Rattle.spans.specs.Words.{Words}

-- the text has a byte, and its first one is below 128
abbrev pub Low : List ℕ → Type 0
Low s = get_or s 0 128 < 128

abbrev pub Starts : {X : Type 0} → Lang X → Type 0
Starts A = Words A (λ at s v at' t. Low s)

-- no range of the class goes beyond 127
abbrev pub low : Class → Bool
low [] = true
low ((l to h) ∷ c) = and (leb h 127) (low c)

and_both : (x y : Bool) → and x y ≡ true → (x ≡ true) × (y ≡ true)
and_both true y e = (refl, e)
and_both false y e = absurd (false≢true e)

or_then : {C : Type 0} (x y : Bool) → or x y ≡ true → (x ≡ true → C) → (y ≡ true → C) → C
or_then true y e f g = f refl
or_then false y e f g = g e

class_low : (c : Class) (b : ℕ) → low c ≡ true → is c b ≡ true → b < 128
class_low [] b l e = absurd (false≢true e)
class_low ((f to h) ∷ c) b l e =
    let m = and_both (leb h 127) (low c) l in
    or_then (within (f to h) b) (is c b) e (λ i. range (leb-true h 127 m.0) (leb-true b h (and_both (leb f b) (leb b h) i).1)) (class_low c b m.1)
  where
    range : h ≤ 127 → b ≤ h → b < 128
    range i j = omega arith

pub byte_starts : (c : Class) → low c ≡ true → Starts (Byte (is c))
byte_starts c l = record { has = go }
  where
    go : {at : ℕ} {s : List ℕ} {v at' : ℕ} {t : List ℕ} → Byte (is c) at s v at' t → Low s
    go (byte {b = b} e) = class_low c b l e

pub seq_starts : {X Y : Type 0} {A : Lang X} {B : X → Lang Y} → Starts A → Starts (Seq A B)
seq_starts f = record { has = λ z. f.has z.first }

-- a word of one byte or more, the first of them ASCII
abbrev pub low_word : List ℕ → Bool
low_word [] = false
low_word (b ∷ bs) = low (only b)

pub word_starts : (bs : List ℕ) → low_word bs ≡ true → Starts (Word bs)
word_starts [] l = absurd (false≢true l)
word_starts (b ∷ bs) l = seq_starts (byte_starts (only b) l)

-- an A or nothing, and then what starts so itself
pub option_starts : {Y : Type 0} {A : Lang (List ℕ)} {B : List ℕ → Lang Y} → Starts A → ((v : List ℕ) → Starts (B v)) → Starts (Seq (Option A) B)
option_starts {Y} {A} {B} f g = record { has = λ z. by z.first z.second }
  where
    by : {at : ℕ} {s v : List ℕ} {m : ℕ} {r : List ℕ} {y : Y} {e : ℕ} {t : List ℕ} → Option A at s v m r → B v m r y e t → Low s
    by (one a) b = f.has a
    by (two ret) b = (g []).has b
