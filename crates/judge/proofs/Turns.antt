-- The lines of a block, read with a bound on the further ones: one, and as many more as begin. Assumes nothing.
use mathlib.Core.Path.{◌≡◌, refl, sym, ap, ◌∙◌}
use mathlib.Core.List.{List, [], ◌∷◌}
use mathlib.Core.Bool.{true, false}
use Prim.Native.Nat.{ℕ, zero, suc, ◌+◌, ◌≤◌, max}
use native.Mathlib.Omega.{arith}
use lib.ListN.{length, drop, length-drop}
use lib.Seq.{drop-drop}
use Rattle.exact.specs.Class.{Class, is}
use Rattle.exact.specs.Out.{Out, Reader, bind, fmap, ok, soft, bad}
use Rattle.exact.specs.Answers.{map_fmap, bind_same}
use Rattle.exact.specs.Comb.{seq_r, map_r}
use Rattle.exact.specs.Place.{left}
use Rattle.exact.specs.Block.{star_g, indented_r, ind, lead, ind_fits}
use Rattle.exact.specs.Lines.{reached, raised, indented_ok, bind_reached}
use Rattle.rooms.specs.Indent.{spaces_lead}
use Rattle.blocks.specs.Lines.{lines_r}
use Rattle.judge.proofs.Outs.{raised_soft}

unfoldable pub lines_n : {X : Type 0} → Class → ℕ → Reader X → ℕ → Reader (List X)
lines_n c n r k = seq_r r λ v. map_r (v ∷◌) (star_g (ind (is c) n) (lead n) (indented_r n r) k)

module _ {X : Type 0} (c : Class) (n : ℕ) (r : Reader X) (doc : List ℕ) (at far : ℕ) (v : X) (a : ℕ) (h : r at (drop at doc) ≡ reached far v a (drop a doc)) where
  behind : (k : ℕ) → lines_n c n r k at (drop at doc) ≡ raised far (fmap (v ∷◌) (star_g (ind (is c) n) (lead n) (indented_r n r) k a (drop a doc)))
  unfolding lines_n
  behind k =
      rw h
      (bind_reached far v a (drop a doc) (λ v. map_r (v ∷◌) (star_g (ind (is c) n) (lead n) (indented_r n r) k))
      ∙ ap (raised far) (map_fmap (v ∷◌) (star_g (ind (is c) n) (lead n) (indented_r n r) k a (drop a doc))))

  further : (k : ℕ) → ind (is c) n (drop a doc) ≡ true → lead n (drop a doc) ≡ n
      → star_g (ind (is c) n) (lead n) (indented_r n r) (suc k) a (drop a doc) ≡ lines_n c n r k (a + n) (drop (a + n) doc)
  unfolding lines_n
  further k e f =
      let i : indented_r n r a (drop a doc) ≡ r (a + n) (drop (a + n) doc) =
      indented_ok n r a (drop a doc) (spaces_lead n (drop a doc) ∙ f) ∙ ap (r (a + n)) (drop-drop n a doc) in
      rw (e, i)
      (bind_same (r (a + n) (drop (a + n) doc)) _ _ (λ u a' t'. sym (map_fmap (u ∷◌) (star_g (ind (is c) n) (lead n) (indented_r n r) k a' t'))))

  pub lines_more : (k : ℕ) → length doc ≤ k + a → ind (is c) n (drop a doc) ≡ true → lead n (drop a doc) ≡ n
      → (m : ℕ) × (lines_n c n r k at (drop at doc) ≡ raised far (fmap (v ∷◌) (lines_n c n r m (a + n) (drop (a + n) doc)))) × (length doc ≤ m + (a + 1))
  lines_more zero l e f = let i = ind_fits (is c) n (drop a doc) e in let j = length-drop a doc in absurd (omega arith)
  lines_more (suc m) l e f = (m, behind (suc m) ∙ ap (λ o. raised far (fmap (v ∷◌) o)) (further m e f), omega arith)

  none : (k : ℕ) → ind (is c) n (drop a doc) ≡ false → star_g (ind (is c) n) (lead n) (indented_r n r) k a (drop a doc) ≡ soft (a + lead n (drop a doc)) [] a (drop a doc)
  none zero e = refl
  none (suc k) e = rw e refl

  pub lines_last : (k : ℕ) → ind (is c) n (drop a doc) ≡ false → lines_n c n r k at (drop at doc) ≡ soft (max far (a + lead n (drop a doc))) (v ∷ []) a (drop a doc)
  lines_last k e = behind k ∙ (ap (λ o. raised far (fmap (v ∷◌) o)) (none k e) ∙ raised_soft far (a + lead n (drop a doc)) (v ∷ []) a (drop a doc))

pub lines_bad : {X : Type 0} (c : Class) (n : ℕ) (r : Reader X) (at : ℕ) (s : List ℕ) (k p : ℕ) → r at s ≡ bad p → lines_n c n r k at s ≡ bad p
unfolding lines_n
lines_bad c n r at s k p h = rw h refl

-- the bound that the reader itself has
pub record Enough {X : Type 0} (c : Class) (n : ℕ) (r : Reader X) (doc : List ℕ) (at : ℕ) : Type 0 where
  pub bound : ℕ
  pub same : lines_r c n r at (drop at doc) ≡ lines_n c n r bound at (drop at doc)
  pub enough : (far : ℕ) (v : X) (a : ℕ) → r at (drop at doc) ≡ reached far v a (drop a doc) → length doc ≤ bound + a

pub enough_lines : {X : Type 0} (c : Class) (n : ℕ) (r : Reader X) (doc : List ℕ) (at : ℕ) → Enough c n r doc at
unfolding lines_r lines_n
enough_lines {X} c n r doc at =
    record {
      bound = left (r at (drop at doc));
      same = go (r at (drop at doc));
      enough = λ far v a h. let l = length-drop a doc in rw h (by far v a (omega arith));
    }
  where
    go : (o : Out X) → bind o (λ v. map_r (v ∷◌) (λ a t. star_g (ind (is c) n) (lead n) (indented_r n r) (length t) a t)) ≡ bind o (λ v. map_r (v ∷◌) (star_g (ind (is c) n) (lead n) (indented_r n r) (left o)))
    go (ok v a t) = refl
    go (soft p v a t) = refl
    go (bad p) = refl

    by : (far : ℕ) (v : X) (a : ℕ) → length doc ≤ length (drop a doc) + a → length doc ≤ left (reached far v a (drop a doc)) + a
    by zero v a h = h
    by (suc f) v a h = h
