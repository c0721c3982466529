-- HOW MANY BYTES of a class a list has. LFs and characters are counted so. Assumes nothing.
use Rattle.std.specs.Prelude.{◌≡◌, refl, List, [], ◌∷◌, ◌++◌, Bool, true, false, ℕ, suc, ◌+◌, ◌≤◌, ◌<◌, length, leb}
use Rattle.std.proofs.Common.{arith, length-append, leb-true, leb-false}
use Rattle.notation.specs.Class.{pick, and, or, ◌to◌, Class, is, only}
use Rattle.language.specs.Lines.{feeds, characters, tail}

-- the numbers from one to another
abbrev pub range : ℕ → ℕ → Class
range lo hi = (lo to hi) ∷ []

-- 1 for a number of the class, and 0 for any other
unfoldable pub hit : Class → ℕ → ℕ
hit c b = pick (is c b) 1 0

unfoldable pub counted : Class → List ℕ → ℕ
counted c [] = 0
counted c (b ∷ s) = hit c b + counted c s

pub hit_one : (c : Class) (b : ℕ) → hit c b ≤ 1
unfolding hit
hit_one c b = by (is c b)
  where
    by : (y : Bool) → pick y 1 0 ≤ 1
    by true = omega arith
    by false = omega arith

-- by two tests
pub hit_below : (lo hi b : ℕ) → b < lo → 0 ≡ hit (range lo hi) b
unfolding hit
hit_below lo hi b l = by (leb lo b) (leb b hi) refl
  where
    by : (x y : Bool) → leb lo b ≡ x → ◌≡◌ {A = ℕ} 0 (pick (or (and x y) false) 1 0)
    by true y e = absurd (omega (arith, leb-true lo b e))
    by false y e = refl

pub hit_above : (lo hi b : ℕ) → hi < b → 0 ≡ hit (range lo hi) b
unfolding hit
hit_above lo hi b l = by (leb lo b) (leb b hi) refl
  where
    by : (x y : Bool) → leb b hi ≡ y → ◌≡◌ {A = ℕ} 0 (pick (or (and x y) false) 1 0)
    by true true e = absurd (omega (arith, leb-true b hi e))
    by true false e = refl
    by false y e = refl

pub hit_within : (lo hi b : ℕ) → lo ≤ b → b ≤ hi → 1 ≡ hit (range lo hi) b
unfolding hit
hit_within lo hi b l m = by (leb lo b) (leb b hi) refl refl
  where
    by : (x y : Bool) → leb lo b ≡ x → leb b hi ≡ y → ◌≡◌ {A = ℕ} 1 (pick (or (and x y) false) 1 0)
    by true true d e = refl
    by true false d e = absurd (omega (arith, leb-false b hi e))
    by false y d e = absurd (omega (arith, leb-false lo b d))

pub counted_append : (c : Class) (s t : List ℕ) → counted c (s ++ t) ≡ counted c s + counted c t
unfolding counted
counted_append c [] t = omega arith
counted_append c (b ∷ s) t = let h = counted_append c s t in omega arith

pub counted_most : (c : Class) (s : List ℕ) → counted c s ≤ length s
unfolding counted
counted_most c [] = omega arith
counted_most c (b ∷ s) = let h = counted_most c s in let k = hit_one c b in omega arith

-- LFs; a character for each byte that is no tail
pub feeds_counted : (s : List ℕ) → feeds s ≡ counted (only 10) s
unfolding feeds counted hit
feeds_counted [] = refl
feeds_counted (b ∷ s) = by (is (only 10) b) (feeds_counted s)
  where
    by : (y : Bool) → feeds s ≡ counted (only 10) s → pick y (suc (feeds s)) (feeds s) ≡ pick y 1 0 + counted (only 10) s
    by true h = omega arith
    by false h = omega arith

pub characters_counted : (s : List ℕ) → characters s + counted tail s ≡ length s
unfolding characters counted hit
characters_counted [] = refl
characters_counted (b ∷ s) = by (is tail b) (characters_counted s)
  where
    by : (y : Bool) → characters s + counted tail s ≡ length s → pick y (characters s) (suc (characters s)) + (pick y 1 0 + counted tail s) ≡ suc (length s)
    by true h = omega arith
    by false h = omega arith

pub characters_append : (s t : List ℕ) → characters (s ++ t) ≡ characters s + characters t
characters_append s t = omega (arith, characters_counted s, characters_counted t, characters_counted (s ++ t), counted_append tail s t, length-append s t)
