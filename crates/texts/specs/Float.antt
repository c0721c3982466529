-- A FLOAT'S TEXT, read from left to right: what can follow what. Assumes nothing.
use Rattle.std.specs.Prelude.{◌≡◌, true, false, List, ◌∷◌, ◌++◌, ℕ, max, ◌≤◌, length, get_or, drop}
use Rattle.notation.specs.Class.{is}
use Rattle.language.specs.Scalars.{digit, infinity_word}
use Rattle.shaped.specs.Shaped.{Digits, Number, Power, Powers, Decimal}

-- what is left of a text behind all the digits that begin it
pub data Past : List ℕ → List ℕ → Type 0 where
  past_none : {t : List ℕ} → is digit (get_or t 0 0) ≡ false → Past t t
  past_more : {d : ℕ} {s t : List ℕ} → is digit d ≡ true → Past s t → Past (d ∷ s) t

-- the digits from a on end at b
pub record Digited (s : List ℕ) (a b : ℕ) : Type 0 where
  pub onward : a ≤ b
  pub inside : b ≤ max a (length s)
  pub past : Past (drop a s) (drop b s)

-- what can follow a point behind digits: any number of digits, and an exponent or none
pub data Fraction : List ℕ → Type 0 where
  fraction : {fs x : List ℕ} → Digits fs → Powers x → Fraction (fs ++ x)

-- what can follow a point that begins: the same with at least one digit
pub data Parted : List ℕ → Type 0 where
  parted : {fs x : List ℕ} → Number fs → Powers x → Parted (fs ++ x)

-- what can follow digits: a point and a fraction, or an exponent
pub data Onward : List ℕ → Type 0 where
  point : {s : List ℕ} → Fraction s → Onward (46 ∷ s)
  raise : {x : List ℕ} → Power x → Onward x

-- a decimal that a point begins
pub data Broken : List ℕ → Type 0 where
  break : {s : List ℕ} → Parted s → Broken (46 ∷ s)

-- a float that is a number and has no minus
pub data Unsigned : List ℕ → Type 0 where
  no_end : Unsigned infinity_word
  finite : {s : List ℕ} → Decimal s → Unsigned s
