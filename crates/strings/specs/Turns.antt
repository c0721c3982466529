-- As many as there are, one turn after another, without a bound on the turns: what a loop in code learns of `many_r` and `many_g`.
use Rattle.std.specs.Prelude.{◌≡◌, refl, List, [], ◌∷◌, Bool, true, false, ℕ, zero, suc, ◌+◌, ◌≤◌, length}
use Rattle.std.proofs.Common.{ap, arith}
use Rattle.exact.specs.Class.{pick}
use Rattle.exact.specs.Out.{Out, ok, soft, Reader, raise, bind, fmap, Tamed, t_ok, t_soft, t_bad, Tame, shrinks}
use Rattle.exact.specs.Comb.{star_r, many_r}
use Rattle.exact.specs.Block.{star_g, many_g}

-- what follows a byte or more
bind_same : {X Y : Type 0} {at : ℕ} {s : List ℕ} {o : Out X} (q q' : X → Reader Y) → Tamed 1 at s o
    → ((v : X) (a : ℕ) (t : List ℕ) → suc (length t) ≤ length s → q v a t ≡ q' v a t) → bind o q ≡ bind o q'
bind_same q q' (t_ok {v = v} {a = a} {t = t} m) h = h v a t (omega (arith, shrinks m))
bind_same q q' (t_soft {v = v} {a = a} {t = t} p m l) h = ap (raise p) (h v a t (omega (arith, shrinks m)))
bind_same q q' (t_bad p l m) h = refl

-- the length of the text is turns enough
module _ {X : Type 0} {r : Reader X} (tame : Tame 1 r) where
  star_enough : (f : ℕ → Bool) (n m at : ℕ) (s : List ℕ) → length s ≤ n → length s ≤ m → star_r f r n at s ≡ star_r f r m at s
  star_enough f zero zero at s l k = refl
  star_enough f zero (suc m) at [] l k = refl
  star_enough f zero (suc m) at (b ∷ s) l k = absurd (omega arith)
  star_enough f (suc n) zero at [] l k = refl
  star_enough f (suc n) zero at (b ∷ s) l k = absurd (omega arith)
  star_enough f (suc n) (suc m) at [] l k = refl
  star_enough f (suc n) (suc m) at (b ∷ s) l k =
      ap
      (λ o. pick (f b) o (ok [] at (b ∷ s)))
      (bind_same
      (λ v a t. fmap (v ∷◌) (star_r f r n a t))
      (λ v a t. fmap (v ∷◌) (star_r f r m a t))
      (tame.tame at (b ∷ s))
      (λ v a t h. ap (fmap (v ∷◌)) (star_enough f n m a t (omega arith) (omega arith))))

  pub many_turn : (f : ℕ → Bool) (at b : ℕ) (s : List ℕ) → f b ≡ true → many_r f r at (b ∷ s) ≡ bind (r at (b ∷ s)) (λ v a t. fmap (v ∷◌) (many_r f r a t))
  many_turn f at b s e =
      rw e
      (bind_same
      (λ v a t. fmap (v ∷◌) (star_r f r (length s) a t))
      (λ v a t. fmap (v ∷◌) (many_r f r a t))
      (tame.tame at (b ∷ s))
      (λ v a t h. ap (fmap (v ∷◌)) (star_enough f (length s) (length t) a t (omega arith) (omega arith))))

  -- .. by a look
  star_g_enough : (g : List ℕ → Bool) (far : List ℕ → ℕ) → g [] ≡ false → (n m at : ℕ) (s : List ℕ) → length s ≤ n → length s ≤ m → star_g g far r n at s ≡ star_g g far r m at s
  star_g_enough g far z zero zero at s l k = refl
  star_g_enough g far z zero (suc m) at [] l k = rw z refl
  star_g_enough g far z zero (suc m) at (b ∷ s) l k = absurd (omega arith)
  star_g_enough g far z (suc n) zero at [] l k = rw z refl
  star_g_enough g far z (suc n) zero at (b ∷ s) l k = absurd (omega arith)
  star_g_enough g far z (suc n) (suc m) at s l k =
      ap
      (λ o. pick (g s) o (soft (at + far s) [] at s))
      (bind_same
      (λ v a t. fmap (v ∷◌) (star_g g far r n a t))
      (λ v a t. fmap (v ∷◌) (star_g g far r m a t))
      (tame.tame at s)
      (λ v a t h. ap (fmap (v ∷◌)) (star_g_enough g far z n m a t (omega arith) (omega arith))))

  pub many_g_turn : (g : List ℕ → Bool) (far : List ℕ → ℕ) → g [] ≡ false → (at : ℕ) (s : List ℕ) → g s ≡ true
      → many_g g far r at s ≡ bind (r at s) (λ v a t. fmap (v ∷◌) (many_g g far r a t))
  many_g_turn g far z at [] e = absurd (Rattle.exact.specs.Class.clash e z)
  many_g_turn g far z at (b ∷ s) e =
      rw e
      (bind_same
      (λ v a t. fmap (v ∷◌) (star_g g far r (length s) a t))
      (λ v a t. fmap (v ∷◌) (many_g g far r a t))
      (tame.tame at (b ∷ s))
      (λ v a t h. ap (fmap (v ∷◌)) (star_g_enough g far z (length s) (length t) a t (omega arith) (omega arith))))

pub many_g_stop : {X : Type 0} (g : List ℕ → Bool) (far : List ℕ → ℕ) (r : Reader X) (at : ℕ) (s : List ℕ) → g s ≡ false → many_g g far r at s ≡ soft (at + far s) [] at s
many_g_stop g far r at [] e = refl
many_g_stop g far r at (b ∷ s) e = rw e refl
