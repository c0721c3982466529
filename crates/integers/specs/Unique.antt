-- COMPARING HAS ONE ANSWER ONLY (01, What each statement has to settle). Assumes nothing.
use Rattle.std.specs.Prelude.{◌≡◌, refl, List, ℕ, ◌+◌, ℤ, pos, negsuc, Ok, Err}
use Rattle.std.proofs.Common.{sym, ap, ◌∙◌, arith}
use Rattle.std.specs.declared.cmp.Ordering.TheVariants.{Less, Equal, Greater}
use Rattle.integers.specs.Order.{Verdict, Compared, compared_verdict, compared}

-- a verdict as one natural number
mark : Verdict → ℕ
mark v = v.number + rank v.value
  where
    rank : ℤ → ℕ
    rank (pos n) = n
    rank (negsuc n) = 2

pub verdict_tells : (c d : Compared) → compared_verdict c ≡ compared_verdict d → c ≡ d
unfolding mark
verdict_tells (Ok Less) (Ok Less) e = refl
verdict_tells (Ok Less) (Ok Equal) e = absurd (omega (arith, ap mark e))
verdict_tells (Ok Less) (Ok Greater) e = absurd (omega (arith, ap mark e))
verdict_tells (Ok Less) (Err _) e = absurd (omega (arith, ap mark e))
verdict_tells (Ok Equal) (Ok Less) e = absurd (omega (arith, ap mark e))
verdict_tells (Ok Equal) (Ok Equal) e = refl
verdict_tells (Ok Equal) (Ok Greater) e = absurd (omega (arith, ap mark e))
verdict_tells (Ok Equal) (Err _) e = absurd (omega (arith, ap mark e))
verdict_tells (Ok Greater) (Ok Less) e = absurd (omega (arith, ap mark e))
verdict_tells (Ok Greater) (Ok Equal) e = absurd (omega (arith, ap mark e))
verdict_tells (Ok Greater) (Ok Greater) e = refl
verdict_tells (Ok Greater) (Err _) e = absurd (omega (arith, ap mark e))
verdict_tells (Err _) (Ok Less) e = absurd (omega (arith, ap mark e))
verdict_tells (Err _) (Ok Equal) e = absurd (omega (arith, ap mark e))
verdict_tells (Err _) (Ok Greater) e = absurd (omega (arith, ap mark e))
verdict_tells (Err _) (Err _) e = refl

pub one_compared : (left right : List ℕ) (c d : Compared) → compared_verdict c ≡ compared left right → compared_verdict d ≡ compared left right → c ≡ d
one_compared left right c d p q = verdict_tells c d (p ∙ sym q)
