-- THE WALK GIVES a clash exactly if two trees clash, else the one over the other (`overlay_either`). Assumes nothing.
use Rattle.std.specs.Prelude.{◌≡◌, refl, List, ◌∷◌, ◌++◌, Bool, true, false, ℕ, eqb}
use Rattle.std.proofs.Common.{sym, ap, ap₂, ◌∙◌}
use Rattle.notation.specs.Class.{pick, and, or}
use Rattle.language.specs.Kind.{OBJECT}
use Rattle.language.specs.Tree.{Tree, leaf, node, Forest, none, more, Field, field, object_tree, text_of}
use Rattle.language.specs.Alike.{unspan, unspans}
use Rattle.overlay.specs.Overlay.{is_object, pairs_of, pairs, Value, value, absent, at, value_of, new_ones, OrClash, onward, Laid, laid, clash, meet, lay, lay_pairs, lay_pair, overlay}
use Rattle.overlay.specs.Over.{clashes, clash_in, clash_of, over, pairs_over, pair_over, clash_or_over}
use Rattle.overlay.specs.Unspanned.{unspan_text, bare, bare_value, unspan_object, bare_pairs_of, bare_pairs_lem, bare_value_lem, bare_append, bare_new, bare_object}
use Rattle.overlay.specs.Walked.{bare_joined, bare_pairs, bare_tree, either_joined, joined, made, object, value_either}

-- two objects, two others, or one of each
either_meet : (u : Tree) (x y : Bool) (l : Laid) (b : Bool) (r : Tree) → bare_tree l ≡ pick b clash (laid r)
    → bare_tree (meet x y l (laid u)) ≡ pick (pick x (pick y b true) y) clash (laid (pick (and x y) r (unspan u)))
either_meet u true true l b r p = p
either_meet u true false l b r p = refl
either_meet u false true l b r p = refl
either_meet u false false l b r p = refl

mutual
  unfolding unspan lay clashes over pairs_of bare clash_or_over

  lay_either : (t u : Tree) → bare_tree (lay t u) ≡ clash_or_over (unspan t) (unspan u)
  lay_either (leaf k a e s) u = rw (unspan_object u) (either_meet u false (is_object u) clash true u refl)
  lay_either (node k a e c ts) u =
      let gs = pairs u in
      let us = unspans ts in
      rw (unspan_object u, bare_pairs_lem u)
      (either_meet u (eqb k OBJECT) (is_object u) (object a e (lay_pairs ts gs) (new_ones (pairs_of ts) gs)) (clash_in us (bare gs))
      (object_tree 0 0 (pairs_over us (bare gs) ++ new_ones (pairs_of us) (bare gs))) (made a e ts gs (pairs_either ts gs)))

  pairs_either : (ts : Forest) (gs : List Field) → bare_pairs (lay_pairs ts gs) ≡ pick (clash_in (unspans ts) (bare gs)) clash (laid (pairs_over (unspans ts) (bare gs)))
  pairs_either none gs = refl
  pairs_either (more k ts) gs = pair_either ts k gs

  pair_either : (ts : Forest) (k : Tree) (gs : List Field)
      → bare_pairs (lay_pair ts k gs) ≡ pick (clash_of (unspans ts) (unspan k) (bare gs)) clash (laid (pair_over (unspans ts) (unspan k) (bare gs)))
  pair_either none k gs = refl
  pair_either (more v ts) k gs =
      rw (unspan_text k, bare_value_lem (text_of k) gs)
      (bare_joined k (at (λ w. lay v w) (laid v) (value_of (text_of k) gs)) (lay_pairs ts gs)
      ∙ (ap₂ (joined (unspan k)) (value_either v (λ w. lay_either v w) (value_of (text_of k) gs)) (pairs_either ts gs)
      ∙ either_joined (unspan k) (at (λ w. clashes (unspan v) w) false (bare_value (value_of (text_of k) gs))) (clash_in (unspans ts) (bare gs))
      (at (λ w. over (unspan v) w) (unspan v) (bare_value (value_of (text_of k) gs))) (pairs_over (unspans ts) (bare gs))))

-- THE LAW
pub overlay_either : (t u : Tree) → overlay t u ≡ clash_or_over (unspan t) (unspan u)
unfolding overlay
overlay_either t u = lay_either t u
