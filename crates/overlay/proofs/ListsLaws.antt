-- PAIRS LAID OVER PAIRS (`laid_pairs`), as lists: what they have for a key (`laid_value`), and which are new. Assumes nothing.
use Rattle.std.specs.Prelude.{◌≡◌, Bool, ℕ, eqb}
use Rattle.std.proofs.Math.Path.{refl, ap}
use Rattle.std.proofs.Common.{sym, ap₂, subst, ◌∙◌}
use mathlib.Core.List.{List, [], ◌∷◌, ◌++◌, cons-ne-nil}
use Rattle.std.proofs.Math.Bool.{true, false}
use Rattle.notation.specs.Class.{pick, and}
use Rattle.language.specs.Kind.{OBJECT}
use Rattle.language.specs.Tree.{Tree, leaf, node, Forest, none, more, Field, field, object_tree, text_of}
use Rattle.exact.specs.Class.{clash}
use Rattle.exact.specs.Tells.{Tells, tells_eqb}
use Rattle.overlay.specs.Overlay.{is_object, pairs_of, pair_of, pairs, same, Value, value, absent, at, value_of, new_ones}
use Rattle.overlay.specs.Over.{over, pairs_over, pair_over}
use Rattle.overlay.specs.Lists.{laid_pairs, laid_value, merged, over_mended, pairs_object}

pub over_objects : (t u : Tree) → is_object t ≡ true → is_object u ≡ true → over t u ≡ object_tree 0 0 (laid_pairs (pairs t) (pairs u))
unfolding over laid_pairs
over_objects (leaf k a e s) u p q = absurd (clash p refl)
over_objects (node k a e c ts) u p q = rw (p, q, over_mended ts (pairs u))

-- .. with these pairs; what it has for a key
pub over_pairs : (t u : Tree) → is_object t ≡ true → is_object u ≡ true → pairs (over t u) ≡ laid_pairs (pairs t) (pairs u)
over_pairs t u p q = ap pairs (over_objects t u p q) ∙ pairs_object 0 0 (laid_pairs (pairs t) (pairs u))

pub over_value : (s : List ℕ) (t u : Tree) → is_object t ≡ true → is_object u ≡ true → value_of s (pairs (over t u)) ≡ merged (value_of s (pairs t)) (value_of s (pairs u))
over_value s t u p q = ap (value_of s) (over_pairs t u p q) ∙ laid_value s (pairs t) (pairs u)

-- two others, or one
pub over_other : (t u : Tree) → is_object t ≡ false → over t u ≡ u
unfolding over
over_other (leaf k a e s) u p = refl
over_other (node k a e c ts) u p = rw p
