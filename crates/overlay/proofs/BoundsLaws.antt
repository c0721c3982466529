-- HOW MUCH OF TWO TREES THE ONE OVER THE OTHER HAS: no more rows than both, and no longer a text (`over_rows`, `over_text`). Assumes nothing.
use Rattle.std.specs.Prelude.{◌≡◌, Bool, length}
use Rattle.std.proofs.Math.Path.{refl, ap}
use Rattle.std.proofs.Common.{sym, ◌∙◌, length-append}
use mathlib.Core.List.{List, [], ◌∷◌, ◌++◌}
use Rattle.std.proofs.Math.Bool.{true, false}
use Prim.Native.Nat.{ℕ, zero, suc, ◌+◌, ◌≤◌}
use native.Mathlib.Omega.{arith}
use Rattle.notation.specs.Class.{pick}
use Rattle.exact.specs.Class.{clash}
use Rattle.exact.specs.Tells.{Tells}
use Rattle.language.specs.Tree.{Tree, node, Field, field, fields, forest, count, object_tree, size, text_of, texts_of}
use Rattle.shaped.specs.Shaped.{Shaped, shaped_leaf, shaped_array, shaped_object}
use Rattle.sound.specs.Members.{Sane}
use Rattle.overlay.specs.Overlay.{is_object, pairs, same, Value, value, absent, at, value_of, new_ones}
use Rattle.overlay.specs.Over.{over}
use Rattle.overlay.specs.Lists.{same_tells, no_value, value_here, value_there, topped, mended, laid_pairs, new_kept, new_left, over_others}
use Rattle.overlay.proofs.ListsLaws.{over_objects, over_other}
use Rattle.overlay.specs.Objects.{Props, props_none, props_more, props_value, pairs_forest, pairs_count}
use Rattle.overlay.proofs.ObjectsLaws.{sane_props, sane_other}
use Rattle.overlay.specs.Bounds.{Bound, Whole, mended_weight, met_new, object_rows, object_text, weigh, weigh_laid}

object_whole : {k : ℕ} {t : Tree} → Shaped k t → is_object t ≡ true → Whole t
object_whole (shaped_leaf x) o = absurd (clash o refl)
object_whole (shaped_array x) o = absurd (clash o refl)
object_whole (shaped_object {a = a} {e = e} {n = n} {ts = ts} x) o =
    record { first = a; after = e; is = ap (λ (c : ℕ). node 9 a e c ts) (sym (pairs_count x)) ∙ ap (node 9 a e (count (pairs (node 9 a e n ts)))) (sym (pairs_forest x)) }

-- the weight of a tree, and of pairs
module _ (w : Tree → ℕ) where
  module _ (c : ℕ) (whole : (a e : ℕ) (fs : List Field) → w (object_tree a e fs) ≡ c + (weigh w) fs) where
    over_bound : (k : ℕ) → (Bound w c whole) k
    unfolding Bound
    over_bound zero t u x y = omega (arith, ap w (over_other t u (sane_other x)))
    over_bound (suc k) t u x y = by (is_object t) (is_object u) refl refl (over_bound k)
      where
        by : (a b : Bool) → is_object t ≡ a → is_object u ≡ b → (Bound w c whole) k → w (over t u) ≤ w t + w u
        by false b p q f = omega (arith, ap w (over_other t u p))
        by true false p q f = omega (arith, ap w (over_others t u q))
        by true true p q f = both p q f (object_whole x.shaped p) (object_whole y.shaped q)
          where
            both : is_object t ≡ true → is_object u ≡ true → (Bound w c whole) k → Whole t → Whole u → w (over t u) ≤ w t + w u
            both p q f i j =
                let fs = pairs t in
                let gs = pairs u in
                let m = (mended_weight w c whole) gs f (sane_props x p) (sane_props y q) in
                let n = (met_new w) gs (sane_props x p) in
                let o : w (over t u) ≡ c + (weigh w) (laid_pairs fs gs) = ap w (over_objects t u p q) ∙ whole 0 0 (laid_pairs fs gs) in
                let l = (weigh_laid w) fs gs in
                omega (arith, ap w i.is ∙ whole i.first i.after fs, ap w j.is ∙ whole j.first j.after gs)

pub over_rows : (k : ℕ) (t u : Tree) → Sane k t → Sane k u → size (over t u) ≤ size t + size u
unfolding Bound
over_rows k t u x y = over_bound size 1 object_rows k t u x y

pub over_text : (k : ℕ) (t u : Tree) → Sane k t → Sane k u → length (text_of (over t u)) ≤ length (text_of t) + length (text_of u)
unfolding Bound
over_text k t u x y = over_bound (λ z. length (text_of z)) 0 object_text k t u x y
