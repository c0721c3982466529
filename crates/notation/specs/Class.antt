-- CLASSES of numbers, bytes above all, as lists of ranges. Assumes nothing.
use Rattle.std.specs.Prelude.{List, [], ◌∷◌, Bool, true, false, ℕ, leb}

abbrev pub pick : {X : Type 0} → Bool → X → X → X
pick true x y = x
pick false x y = y

abbrev pub and : Bool → Bool → Bool
and true b = b
and false b = false

abbrev pub or : Bool → Bool → Bool
or true b = true
or false b = b

-- from one number to another, both included
pub data Range : Type 0 where
  ◌to◌ : ℕ → ℕ → Range

infix 50 ◌to◌
abbrev pub Class : Type 0
Class = List Range

abbrev pub within : Range → ℕ → Bool
within (l to h) b = and (leb l b) (leb b h)

-- b is in one of the ranges
abbrev pub is : Class → ℕ → Bool
is [] b = false
is (r ∷ c) b = or (within r b) (is c b)

abbrev pub only : ℕ → Class
only b = (b to b) ∷ []
