-- HOW MUCH OF TWO TREES THE ONE OVER THE OTHER HAS: no more rows than both, and no longer a text (`over_rows`, `over_text`). Assumes nothing.
use Rattle.std.specs.Prelude.{◌≡◌, Bool, length}
use Rattle.std.proofs.Math.Path.{refl, ap}
use Rattle.std.proofs.Common.{sym, ◌∙◌, length-append}
use mathlib.Core.List.{List, [], ◌∷◌, ◌++◌}
use Rattle.std.proofs.Math.Bool.{true, false}
use Prim.Native.Nat.{ℕ, zero, suc, ◌+◌, ◌≤◌}
use native.Mathlib.Omega.{arith}
use Rattle.notation.specs.Class.{pick}
use Rattle.exact.specs.Class.{clash}
use Rattle.exact.specs.Tells.{Tells}
use Rattle.language.specs.Tree.{Tree, node, Field, field, fields, forest, count, object_tree, size, text_of, texts_of}
use Rattle.shaped.specs.Shaped.{Shaped, shaped_leaf, shaped_array, shaped_object}
use Rattle.sound.specs.Members.{Sane}
use Rattle.overlay.specs.Overlay.{is_object, pairs, same, Value, value, absent, at, value_of, new_ones}
use Rattle.overlay.specs.Over.{over}
use Rattle.overlay.specs.Lists.{same_tells, no_value, value_here, value_there, topped, mended, laid_pairs, new_kept, new_left, over_others}
use Rattle.overlay.specs.Objects.{Props, props_none, props_more, props_value, pairs_forest, pairs_count}

-- an object is that of its pairs
pub record Whole (t : Tree) : Type 0 where
  pub first : ℕ
  pub after : ℕ
  pub is : t ≡ object_tree first after (pairs t)

-- the weight of a tree, and of pairs
module _ (w : Tree → ℕ) where
  unfoldable pub weigh : List Field → ℕ
  weigh [] = 0
  weigh (field k v ∷ fs) = w k + w v + weigh fs

  -- what the keys of fs have among gs
  unfoldable pub met : List Field → List Field → ℕ
  met [] gs = 0
  met (field k v ∷ fs) gs = at w 0 (value_of (text_of k) gs) + met fs gs

  pub weigh_append : (fs gs : List Field) → weigh (fs ++ gs) ≡ weigh fs + weigh gs
  unfolding weigh
  weigh_append [] gs = omega arith
  weigh_append (field k v ∷ fs) gs = omega (arith, weigh_append fs gs)

  pub weigh_laid : (fs gs : List Field) → weigh (laid_pairs fs gs) ≡ weigh (mended fs gs) + weigh (new_ones fs gs)
  unfolding laid_pairs
  weigh_laid fs gs = weigh_append (mended fs gs) (new_ones fs gs)

  pub met_none : (fs : List Field) → met fs [] ≡ 0
  unfolding met value_of
  met_none [] = refl
  met_none (field k v ∷ fs) = omega (arith, met_none fs)

  -- a key that fs has not
  met_there : (g u : Tree) (fs gs : List Field) → value_of (text_of g) fs ≡ absent → met fs (field g u ∷ gs) ≡ met fs gs
  unfolding met value_of
  met_there g u [] gs e = refl
  met_there g u (field k v ∷ fs) gs e = by (same (text_of g) (text_of k)) (same_tells (text_of g) (text_of k)) e (λ f. met_there g u fs gs f)
    where
      by : (c : Bool) → Tells (text_of g ≡ text_of k) c → pick c (value v) (value_of (text_of g) fs) ≡ absent → (value_of (text_of g) fs ≡ absent → met fs (field g u ∷ gs) ≡ met fs gs)
          → at w 0 (value_of (text_of k) (field g u ∷ gs)) + met fs (field g u ∷ gs) ≡ at w 0 (value_of (text_of k) gs) + met fs gs
      by true t f r = absurd (no_value refl f)
      by false t f r = ap (λ (x : Value). at w 0 x + met fs (field g u ∷ gs)) (value_there (text_of k) g u gs (λ z. t (sym z))) ∙ ap (λ (n : ℕ). at w 0 (value_of (text_of k) gs) + n) (r f)

  met_here : {k : ℕ} {fs : List Field} (g u : Tree) (gs : List Field) → Props k fs → met fs (field g u ∷ gs) ≤ met fs gs + w u
  unfolding met text_of
  met_here g u gs props_none = omega arith
  met_here {fs = _} g u gs (props_more {a = a} {e = e} {d = d} {v = v} {fs = fs} x y n ps) = by (same d.bytes (text_of g)) (same_tells d.bytes (text_of g)) (met_here g u gs ps)
    where
      by : (c : Bool) → Tells (d.bytes ≡ text_of g) c → met fs (field g u ∷ gs) ≤ met fs gs + w u
          → at w 0 (value_of d.bytes (field g u ∷ gs)) + met fs (field g u ∷ gs) ≤ at w 0 (value_of d.bytes gs) + met fs gs + w u
      by true t q =
          let i : value_of d.bytes (field g u ∷ gs) ≡ value u = value_here d.bytes g u gs t in
          let j = met_there g u fs gs (ap (λ (l : List ℕ). value_of l fs) (sym t) ∙ n) in
          omega (arith, ap (at w 0) i)
      by false t q =
          let i : value_of d.bytes (field g u ∷ gs) ≡ value_of d.bytes gs = value_there d.bytes g u gs t in
          omega (arith, ap (at w 0) i)

  -- what is met and what is new are no more than all
  pub met_new : {k : ℕ} {fs : List Field} (gs : List Field) → Props k fs → met fs gs + weigh (new_ones fs gs) ≤ weigh gs
  unfolding weigh new_ones
  met_new {fs = fs} [] ps = omega (arith, met_none fs)
  met_new {fs = fs} (field g u ∷ gs) ps = by (value_of (text_of g) fs) refl (met_new gs ps) (met_here g u gs ps)
    where
      by : (x : Value) → value_of (text_of g) fs ≡ x → met fs gs + weigh (new_ones fs gs) ≤ weigh gs → met fs (field g u ∷ gs) ≤ met fs gs + w u
          → met fs (field g u ∷ gs) + weigh (new_ones fs (field g u ∷ gs)) ≤ w g + w u + weigh gs
      by (value v) e h i = omega (arith, ap weigh (new_left fs g u gs e))
      by absent e h i = omega (arith, ap weigh (new_kept fs g u gs e), met_there g u fs gs e)

  module _ (c : ℕ) (whole : (a e : ℕ) (fs : List Field) → w (object_tree a e fs) ≡ c + weigh fs) where
    unfoldable pub Bound : ℕ → Type 0
    Bound k = (t u : Tree) → Sane k t → Sane k u → w (over t u) ≤ w t + w u

    pub mended_weight : {k : ℕ} {fs : List Field} (gs : List Field) → Bound k → Props k fs → Props k gs → weigh (mended fs gs) ≤ weigh fs + met fs gs
    unfolding weigh met mended text_of Bound
    mended_weight gs f props_none qs = omega arith
    mended_weight {k} gs f (props_more {a = a} {e = e} {d = d} {v = v} {fs = fs} x y n ps) qs =
        let z : w (topped v (value_of d.bytes gs)) ≤ w v + at w 0 (value_of d.bytes gs) = by (value_of d.bytes gs) refl in
        omega (arith, mended_weight gs f ps qs)
      where
        by : (o : Value) → value_of d.bytes gs ≡ o → w (topped v o) ≤ w v + at w 0 o
        by (value u) q = f v u y (props_value d.bytes qs q)
        by absent q = omega arith

-- ROWS, AND TEXT
pub object_rows : (a e : ℕ) (fs : List Field) → size (object_tree a e fs) ≡ 1 + weigh size fs
unfolding size weigh
object_rows a e [] = refl
object_rows a e (field k v ∷ fs) = omega (arith, object_rows a e fs)

pub object_text : (a e : ℕ) (fs : List Field) → length (text_of (object_tree a e fs)) ≡ 0 + weigh (λ t. length (text_of t)) fs
unfolding text_of weigh
object_text a e [] = refl
object_text a e (field k v ∷ fs) =
    let us = forest (fields fs) in
    omega (arith, object_text a e fs, length-append (text_of k) (text_of v ++ texts_of us), length-append (text_of v) (texts_of us))
