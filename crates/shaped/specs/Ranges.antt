-- A CLASS OF ONE RANGE: what is in it lies between its ends. Assumes nothing.
use Rattle.std.specs.Prelude.{◌≡◌, refl, [], ◌∷◌, ◌⊎◌, true, false, ℕ, ◌≤◌}
use Rattle.std.proofs.Common.{inl, inr}
use Rattle.notation.specs.Class.{◌to◌, Class, within, is}
use Rattle.exact.specs.Class.{or_of, range_of, sub, inside, clash}

pub in_range : (l h b : ℕ) → is ((l to h) ∷ []) b ≡ true → (l ≤ b) × (b ≤ h)
in_range l h b e = by (or_of (within (l to h) b) false e)
  where
    by : (within (l to h) b ≡ true) ⊎ (false ≡ true) → (l ≤ b) × (b ≤ h)
    by (inl x) = range_of l h b x
    by (inr x) = absurd (clash x refl)

-- a class inside a range from 0 up
pub up_to : (c : Class) (h b : ℕ) → sub c ((0 to h) ∷ []) ≡ true → is c b ≡ true → b ≤ h
up_to c h b s e = (in_range 0 h b (inside c ((0 to h) ∷ []) b s e)).1
