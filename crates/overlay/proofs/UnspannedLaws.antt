-- OVERLAYS AND SPANS: to lay trees without spans over each other is to lay the trees over each other and forget their spans (`over_unspan`). Assumes nothing.
use Rattle.std.specs.Prelude.{◌≡◌, refl, List, [], ◌∷◌, ◌++◌, Bool, true, false, ℕ, suc, eqb}
use Rattle.std.proofs.Common.{sym, ap, ap₂, subst, ◌∙◌}
use Rattle.notation.specs.Class.{pick, and}
use Rattle.language.specs.Kind.{OBJECT}
use Rattle.language.specs.Tree.{Tree, leaf, node, Forest, none, more, Field, field, fields, forest, count, object_tree, text_of}
use Rattle.language.specs.Alike.{unspan, unspans, Alike}
use Rattle.shaped.specs.Shaped.{Shaped, shaped_leaf, shaped_array, shaped_object, Elements, elements_none, elements_more, Pairs, pairs_none, pairs_more}
use Rattle.shaped.specs.Bare.{alike_text}
use Rattle.shaped.specs.Once.{alike_once}
use Rattle.sound.specs.Members.{Sane}
use Rattle.overlay.specs.Overlay.{is_object, pairs_of, pair_of, pairs, same, Value, value, absent, at, value_of, new_ones}
use Rattle.overlay.specs.Over.{over, pairs_over, pair_over}
use Rattle.overlay.specs.Lists.{topped}
use Rattle.overlay.specs.Unspanned.{bare, bare_append, bare_new, bare_object, bare_pairs_lem, bare_pairs_of, over_value, unspan_object, unspan_pick}

-- THE LAW
mutual
  unfolding unspan bare over

  pub over_unspan : (t u : Tree) → over (unspan t) (unspan u) ≡ unspan (over t u)
  over_unspan (leaf k a e s) u = refl
  over_unspan (node k a e c ts) u =
      let x = pairs_over ts (pairs u) in
      let y = new_ones (pairs_of ts) (pairs u) in
      rw (unspan_object u, bare_pairs_lem u, bare_pairs_of ts, over_pairs ts (pairs u), bare_new (pairs_of ts) (pairs u), ← (bare_append x y), bare_object (x ++ y))
      (unspan_pick (and (eqb k OBJECT) (is_object u)) (object_tree 0 0 (x ++ y)) u)

  over_pairs : (ts : Forest) (gs : List Field) → pairs_over (unspans ts) (bare gs) ≡ bare (pairs_over ts gs)
  over_pairs none gs = refl
  over_pairs (more k ts) gs = over_pair ts k gs

  over_pair : (ts : Forest) (k : Tree) (gs : List Field) → pair_over (unspans ts) (unspan k) (bare gs) ≡ bare (pair_over ts k gs)
  over_pair none k gs = refl
  over_pair (more v ts) k gs =
      ap₂ (λ (w : Tree) (l : List Field). field (unspan k) w ∷ l) (over_value k v gs (λ w. over_unspan v w)) (over_pairs ts gs)
