-- WHAT IS LAID OVER IS A TREE AS DOCUMENTS WITHOUT REPEATED KEYS HAVE IT, if both trees are (`over_sane`): no more containers one inside another than in one of the two. Assumes nothing.
use Rattle.std.specs.Prelude.{◌≡◌, refl, Bool, true, false, ℕ, zero, suc}
use Rattle.std.proofs.Common.{sym, subst, ◌∙◌}
use Rattle.std.proofs.Math.Path.{ap}
use mathlib.Core.List.{List, ◌∷◌, ◌++◌}
use Rattle.language.specs.Kind.{KEY}
use Rattle.language.specs.Tree.{Tree, leaf, Field, field, text_of}
use Rattle.sound.specs.Members.{Sane}
use Rattle.overlay.specs.Overlay.{is_object, Value, value, absent, at, value_of, new_ones}
use Rattle.overlay.specs.Over.{over}
use Rattle.overlay.specs.Lists.{no_value, value_here, value_later, append_value, new_kept, new_left, new_known, new_absent, topped, mended, mended_value, laid_pairs, over_others}
use Rattle.overlay.proofs.ListsLaws.{over_objects, over_other}
use Rattle.overlay.specs.Objects.{Props, props_none, props_more, props_value, props_sane}
use Rattle.overlay.proofs.ObjectsLaws.{sane_props, sane_other}
use Rattle.overlay.specs.Whole.{props_laid}

module _ (k : ℕ) (deeper : (t u : Tree) → Sane k t → Sane k u → Sane k (over t u)) where
  both_sane : (t u : Tree) → Sane (suc k) t → Sane (suc k) u → is_object t ≡ true → is_object u ≡ true → Sane (suc k) (over t u)
  both_sane t u x y p q = subst (Sane (suc k)) (sym (over_objects t u p q)) (props_sane 0 0 ((props_laid k deeper) (sane_props x p) (sane_props y q)))

pub over_sane : (k : ℕ) (t u : Tree) → Sane k t → Sane k u → Sane k (over t u)
over_sane zero t u x y = subst (Sane 0) (sym (over_other t u (sane_other x))) y
over_sane (suc k) t u x y = by (is_object t) (is_object u) refl refl (λ v w i j. over_sane k v w i j)
  where
    by : (a b : Bool) → is_object t ≡ a → is_object u ≡ b → ((v w : Tree) → Sane k v → Sane k w → Sane k (over v w)) → Sane (suc k) (over t u)
    by true true p q f = both_sane k f t u x y p q
    by true false p q f = subst (Sane (suc k)) (sym (over_others t u q)) y
    by false b p q f = subst (Sane (suc k)) (sym (over_other t u p)) y
