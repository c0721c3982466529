-- OBJECTS AS DOCUMENTS WITHOUT REPEATED KEYS HAVE THEM, pair by pair (`Props`): from such a tree, and back. Assumes nothing.
use Rattle.std.specs.Prelude.{◌≡◌, Bool}
use Rattle.std.proofs.Math.Path.{refl, ap, subst}
use Rattle.std.proofs.Common.{sym, arith}
use mathlib.Core.List.{List, [], ◌∷◌}
use Rattle.std.proofs.Math.Bool.{true, false}
use Prim.Native.Nat.{ℕ, suc}
use Rattle.notation.specs.Class.{pick}
use Rattle.language.specs.Kind.{KEY}
use Rattle.language.specs.Tree.{Decoded, Tree, leaf, Forest, more, Field, field, fields, forest, count, object_tree, text_of, Has, has_here, has_later, Once}
use Rattle.exact.specs.Class.{clash}
use Rattle.exact.specs.Tells.{Tells}
use Rattle.shaped.specs.Shaped.{Scripted, Shaped, shaped_leaf, shaped_array, shaped_object, Pairs, pairs_none, pairs_more}
use Rattle.sound.specs.Distinct.{again_here, again_later, Distinct, Onces, onces_none, onces_more, node_once, once_distinct, once_onces, leaf_once}
use Rattle.sound.specs.Members.{Sane, no_scalar_key}
use Rattle.overlay.specs.Overlay.{is_object, pairs_of, pairs, same, Value, value, absent, at, value_of}
use Rattle.overlay.specs.Lists.{same_tells, no_value, value_here}
use Rattle.overlay.specs.Objects.{Props, pairs_props}

-- FROM A TREE: the children of an object are such pairs
module _ {k : ℕ} where
  pub sane_props : {t : Tree} → Sane (suc k) t → is_object t ≡ true → Props k (pairs t)
  sane_props {t} s o = by s.shaped s.once o
    where
      by : {t : Tree} → Shaped (suc k) t → Once t → is_object t ≡ true → Props k (pairs t)
      by (shaped_leaf x) u p = absurd (clash p refl)
      by (shaped_array x) u p = absurd (clash p refl)
      by (shaped_object x) u p = pairs_props x (once_onces u) (once_distinct u)

-- a tree without containers is no object
pub sane_other : {t : Tree} → Sane 0 t → is_object t ≡ false
sane_other {t} s = by s.shaped refl
  where
    by : {k : ℕ} {t : Tree} → Shaped k t → k ≡ 0 → is_object t ≡ false
    by (shaped_leaf x) e = refl
    by (shaped_array x) e = refl
    by (shaped_object x) e = absurd (omega arith)
