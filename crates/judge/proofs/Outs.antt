-- Laws of answers: raised by how far something longer begins, and followed by a reader. Assumes nothing.
use mathlib.Core.Path.{◌≡◌, refl, sym, ap, ◌∙◌}
use mathlib.Core.List.{List}
use Prim.Native.Nat.{ℕ, zero, suc, ◌<◌, max}
use native.Mathlib.Omega.{arith}
use Rattle.exact.specs.Out.{Out, raise, fmap, soft, bad}
use Rattle.exact.specs.Answers.{raise_raise, raise_fmap}
use Rattle.exact.specs.Lines.{reached, raised}

module _ {X : Type 0} where
  pub raised_bad : (f p : ℕ) → raised {X = X} f (bad p) ≡ bad (max f p)
  raised_bad zero p = ap bad (omega arith)
  raised_bad (suc f) p = refl

  pub raised_soft : (f p : ℕ) (v : X) (a : ℕ) (t : List ℕ) → raised f (soft p v a t) ≡ soft (max f p) v a t
  raised_soft zero p v a t = ap (λ n. soft n v a t) (omega arith)
  raised_soft (suc f) p v a t = refl

  raise_raised : (p : ℕ) (o : Out X) → 0 < p → raise p o ≡ raised p o
  raise_raised zero o l = absurd (omega arith)
  raise_raised (suc p) o l = refl

  pub raised_raised : (f g : ℕ) (o : Out X) → raised f (raised g o) ≡ raised (max f g) o
  raised_raised zero g o = let e : g ≡ max zero g = omega arith in ap (λ n. raised n o) e
  raised_raised (suc f) zero o = let e : suc f ≡ max (suc f) zero = omega arith in ap (λ n. raised n o) e
  raised_raised (suc f) (suc g) o = sym (raise_raise (suc f) (suc g) o) ∙ raise_raised (max (suc f) (suc g)) o (omega arith)

module _ {X Y : Type 0} where
  pub raised_fmap : (g : X → Y) (f : ℕ) (o : Out X) → raised f (fmap g o) ≡ fmap g (raised f o)
  raised_fmap g zero o = refl
  raised_fmap g (suc f) o = raise_fmap g (suc f) o

  pub fmap_reached : (g : X → Y) (f : ℕ) (v : X) (a : ℕ) (t : List ℕ) → fmap g (reached f v a t) ≡ reached f (g v) a t
  fmap_reached g zero v a t = refl
  fmap_reached g (suc f) v a t = refl
