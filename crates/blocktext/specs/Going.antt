-- A LOOP OVER LINES: as many as there are, by a look, as code reads them one after the other. Assumes nothing.
use Rattle.std.specs.Prelude.{◌≡◌, refl, List, [], ◌∷◌, ◌++◌, Bool, true, false, ℕ, zero, suc, ◌+◌, ◌≤◌, ◌<◌, length, drop}
use Rattle.std.proofs.Common.{sym, ap, ◌∙◌, append-nil, arith, length-drop}
use Rattle.exact.specs.Class.{pick}
use Rattle.exact.specs.Out.{Out, Reader, raise, bind, fmap, Tame, Tamed, forward, ok, soft, bad, t_ok, t_soft, t_bad}
use Rattle.exact.specs.Answers.{raise_fmap, fmap_none, fmap_join}
use Rattle.exact.specs.Block.{star_g, many_g}
use Rattle.exact.specs.Lines.{reached}

-- what was seen to begin before a place raises nothing that is said from there on
raise_twice : {X : Type 0} (p q : ℕ) (o : Out X) → raise p (raise q o) ≡ raise q (raise p o)
raise_twice p q (ok v a t) = ap (λ n. soft n v a t) (omega arith)
raise_twice p q (soft m v a t) = ap (λ n. soft n v a t) (omega arith)
raise_twice p q (bad m) = ap bad (omega arith)

module _ {X : Type 0} (g : List ℕ → Bool) (w : List ℕ → ℕ) (r : Reader X) (tame : Tame 1 r) where
  pub star_raised : (q n a : ℕ) (s : List ℕ) → q ≤ a → raise q (star_g g w r n a s) ≡ star_g g w r n a s
  star_raised q zero a s l = ap (λ m. soft m [] a s) (omega arith)
  star_raised q (suc n) a s l = by (g s) (r a s) (tame.tame a s) (λ a' t. star_raised q n a' t)
    where
      by : (x : Bool) (o : Out X) → Tamed 1 a s o → ((a' : ℕ) (t : List ℕ) → q ≤ a' → raise q (star_g g w r n a' t) ≡ star_g g w r n a' t)
          → raise q (pick x (bind o (λ v a' t. fmap (v ∷◌) (star_g g w r n a' t))) (soft (a + w s) [] a s))
          ≡ pick x (bind o (λ v a' t. fmap (v ∷◌) (star_g g w r n a' t))) (soft (a + w s) [] a s)
      by false o m ih = ap (λ k. soft k [] a s) (omega arith)
      by true (ok v a' t) (t_ok m) ih = raise_fmap (v ∷◌) q (star_g g w r n a' t) ∙ ap (fmap (v ∷◌)) (ih a' t (omega (arith, forward m)))
      by true (soft p v a' t) (t_soft _ m h) ih =
          raise_twice q p (fmap (v ∷◌) (star_g g w r n a' t))
          ∙ ap (raise p) (raise_fmap (v ∷◌) q (star_g g w r n a' t) ∙ ap (fmap (v ∷◌)) (ih a' t (omega (arith, forward m))))
      by true (bad p) (t_bad _ h k) ih = ap bad (omega arith)

  pub many_raised : (q a : ℕ) (s : List ℕ) → q ≤ a → raise q (many_g g w r a s) ≡ many_g g w r a s
  many_raised q a s l = star_raised q (length s) a s l

-- FROM `at` the lines vs were read, and the next may begin at a
pub record Going {X : Type 0} (g : List ℕ → Bool) (w : List ℕ → ℕ) (r : Reader X) (doc : List ℕ) (at a : ℕ) (vs : List X) : Type 0 where
  pub fuel : ℕ
  pub is : many_g g w r at (drop at doc) ≡ fmap (vs ++◌) (star_g g w r fuel a (drop a doc))
  pub enough : length doc ≤ fuel + a

module _ {X : Type 0} (g : List ℕ → Bool) (w : List ℕ → ℕ) (r : Reader X) (doc : List ℕ) where
  pub going_first : (at : ℕ) → Going g w r doc at at []
  going_first at =
      record {
        fuel = length (drop at doc);
        is = sym (fmap_none (many_g g w r at (drop at doc)));
        enough = let l = length-drop at doc in omega arith;
      }

  module _ (at a : ℕ) (vs : List X) where
    pub going_over : g (drop a doc) ≡ false → Going g w r doc at a vs → many_g g w r at (drop at doc) ≡ soft (a + w (drop a doc)) vs a (drop a doc)
    going_over e o = o.is ∙ (ap (fmap (vs ++◌)) (stops o.fuel) ∙ ap (λ l. soft (a + w (drop a doc)) l a (drop a doc)) (append-nil vs))
      where
        stops : (n : ℕ) → star_g g w r n a (drop a doc) ≡ soft (a + w (drop a doc)) [] a (drop a doc)
        stops zero = refl
        stops (suc n) = rw e refl

    pub going_bad : (p : ℕ) → a < length doc → g (drop a doc) ≡ true → r a (drop a doc) ≡ bad p → Going g w r doc at a vs → many_g g w r at (drop at doc) ≡ bad p
    going_bad p l e h o = o.is ∙ ap (fmap (vs ++◌)) (stops o.fuel o.enough)
      where
        stops : (n : ℕ) → length doc ≤ n + a → star_g g w r n a (drop a doc) ≡ bad p
        stops zero k = absurd (omega arith)
        stops (suc n) k = rw (e, h) refl

    pub going_on : Tame 1 r → (q : ℕ) (v : X) (b : ℕ) → g (drop a doc) ≡ true → r a (drop a doc) ≡ reached q v b (drop b doc) → q ≤ b → a < b → b ≤ length doc
        → Going g w r doc at a vs → Going g w r doc at b (vs ++ v ∷ [])
    going_on tame q v b e h k l m o = by o.fuel o.enough o.is
      where
        by : (n : ℕ) → length doc ≤ n + a → many_g g w r at (drop at doc) ≡ fmap (vs ++◌) (star_g g w r n a (drop a doc)) → Going g w r doc at b (vs ++ v ∷ [])
        by zero x i = absurd (omega arith)
        by (suc n) x i =
            record {
              fuel = n;
              is = i ∙ (ap (fmap (vs ++◌)) turned ∙ fmap_join vs (v ∷ []) (star_g g w r n b (drop b doc)));
              enough = omega arith;
            }
          where
            go : (q : ℕ) → q ≤ b → bind (reached q v b (drop b doc)) (λ u a' t. fmap (u ∷◌) (star_g g w r n a' t)) ≡ fmap (v ∷◌) (star_g g w r n b (drop b doc))
            go zero y = refl
            go (suc p) y = raise_fmap (v ∷◌) (suc p) (star_g g w r n b (drop b doc)) ∙ ap (fmap (v ∷◌)) (star_raised g w r tame (suc p) n b (drop b doc) y)

            turned : star_g g w r (suc n) a (drop a doc) ≡ fmap (v ∷◌) (star_g g w r n b (drop b doc))
            turned = rw (e, h) (go q k)
