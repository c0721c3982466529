-- READERS THAT A LOOK DECIDES, and a choice with them: by the look one of the two loses, whatever the allowance. Assumes nothing.
use Rattle.std.specs.Prelude.{◌≡◌, ◌⊎◌, Bool, ℕ, ◌+◌, ◌≤◌, ◌<◌, leb}
use Rattle.std.proofs.Math.Path.{refl}
use Rattle.std.proofs.Common.{sym, ap, ◌∙◌, inl, inr, arith, leb-true, leb-false}
use mathlib.Core.List.{List}
use Rattle.std.proofs.Math.Bool.{true, false}
use Rattle.exact.specs.Class.{clash, or, leb_yes}
use Rattle.exact.specs.Out.{Out, Reader, bind, reach, margin, Tame, reach_from, reach_bind, ok, soft, bad}
use Rattle.exact.specs.Comb.{seq_r}
use Rattle.exact.specs.More.{Which, Spot, Meet, second, first, neither}
use Rattle.blocks.specs.Or.{merge, or_r}
use Rattle.blocks.specs.Look.{Decided, Ordered, Stop, Test, reach_left}

reach_right : {X : Type 0} (p : ℕ) (o : Out X) → reach o ≤ reach (merge (bad p) o)
reach_right p (ok v a t) = omega arith
reach_right p (soft q v a t) = omega arith
reach_right p (bad q) = omega arith

module _ {X : Type 0} {look₁ look₂ : Test} {stop₁ stop₂ : Stop} {r q : Reader X} (h : Ordered look₁ stop₁ look₂ stop₂) (d : Decided look₁ stop₁ r) (e : Decided look₂ stop₂ q) where
  pub or_decided : Decided (λ at s. or (look₁ at s) (look₂ at s)) stop₂ (or_r r q)
  unfolding or_r
  or_decided = record { goes = λ at s. goes at s (look₁ at s) refl; shut = λ at s. shut at s (look₁ at s) refl }
    where
      goes : (at : ℕ) (s : List ℕ) (x : Bool) → look₁ at s ≡ x → or x (look₂ at s) ≡ true → stop₂ at s < reach (merge (r at s) (q at s))
      goes at s true x y =
          rw (e.shut at s (h.alone at s x)) (omega (arith, h.level at s x, d.goes at s x, reach_left (r at s) (stop₂ at s)))
      goes at s false x y = rw (d.shut at s x) (omega (arith, e.goes at s y, reach_right (stop₁ at s) (q at s)))

      shut : (at : ℕ) (s : List ℕ) (x : Bool) → look₁ at s ≡ x → or x (look₂ at s) ≡ false → merge (r at s) (q at s) ≡ bad (stop₂ at s)
      shut at s true x y = absurd (clash refl y)
      shut at s false x y = rw (d.shut at s x, e.shut at s y) (ap bad (omega (arith, h.low at s)))
