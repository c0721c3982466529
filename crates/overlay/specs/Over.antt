-- THE WALK IN TWO: whether two trees clash (`clashes`), and the one over the other where they do not (`over`). The walk gives the one or the other (`Walked`). Assumes nothing.
use Rattle.std.specs.Prelude.{List, [], ◌∷◌, ◌++◌, Bool, true, false, eqb}
use Rattle.notation.specs.Class.{pick, and, or}
use Rattle.language.specs.Kind.{OBJECT}
use Rattle.language.specs.Tree.{Tree, leaf, node, Forest, none, more, Field, field, object_tree, text_of}
use Rattle.overlay.specs.Overlay.{is_object, pairs_of, pairs, at, value_of, new_ones, Laid, laid, clash}

-- CLASHES: one object against one other value; of two objects, the two values of a key that is in both
unfoldable mutual
  pub clashes : Tree → Tree → Bool
  clashes (leaf k a e s) u = is_object u
  clashes (node k a e c ts) u = pick (eqb k OBJECT) (pick (is_object u) (clash_in ts (pairs u)) true) (is_object u)

  -- from a key of the lower on; from the value of the key k on
  pub clash_in : Forest → List Field → Bool
  clash_in none gs = false
  clash_in (more k ts) gs = clash_of ts k gs

  pub clash_of : Forest → Tree → List Field → Bool
  clash_of none k gs = false
  clash_of (more v ts) k gs = or (at (λ w. clashes v w) false (value_of (text_of k) gs)) (clash_in ts gs)

-- THE UPPER OVER THE LOWER, where they do not clash; the objects made have no spans
unfoldable mutual
  pub over : Tree → Tree → Tree
  over (leaf k a e s) u = u
  over (node k a e c ts) u = pick (and (eqb k OBJECT) (is_object u)) (object_tree 0 0 (pairs_over ts (pairs u) ++ new_ones (pairs_of ts) (pairs u))) u

  -- the lower's pairs, from a key on; from the value of the key k on
  pub pairs_over : Forest → List Field → List Field
  pairs_over none gs = []
  pairs_over (more k ts) gs = pair_over ts k gs

  pub pair_over : Forest → Tree → List Field → List Field
  pair_over none k gs = []
  pair_over (more v ts) k gs = field k (at (λ w. over v w) v (value_of (text_of k) gs)) ∷ pairs_over ts gs

-- a clash, or the one over the other
unfoldable pub clash_or_over : Tree → Tree → Laid
clash_or_over lower upper = pick (clashes lower upper) clash (laid (over lower upper))
