-- LAYING ONE TREE OVER ANOTHER (02, Ticket 7): a tree, or a clash. Assumes nothing.
use Rattle.std.specs.Prelude.{List, [], ◌∷◌, ◌++◌, Bool, true, false, ℕ, eqb}
use Rattle.notation.specs.Class.{pick, and}
use Rattle.language.specs.Kind.{OBJECT}
use Rattle.language.specs.Tree.{Tree, leaf, node, Forest, none, more, Field, field, object_tree, text_of}
use Rattle.language.specs.Alike.{unspan}

-- "one object against one other value": arrays are others, as scalars are
abbrev pub is_object : Tree → Bool
is_object (leaf k a e s) = false
is_object (node k a e c ts) = eqb k OBJECT

-- the pairs of an object, whose children are key, value, key, value
unfoldable mutual
  pub pairs_of : Forest → List Field
  pairs_of none = []
  pairs_of (more k ts) = pair_of ts k

  pub pair_of : Forest → Tree → List Field
  pair_of none k = []
  pair_of (more v ts) k = field k v ∷ pairs_of ts

abbrev pub pairs : Tree → List Field
pairs (leaf k a e s) = []
pairs (node k a e c ts) = pairs_of ts

-- equal keys are those of equal decoded bytes
unfoldable pub same : List ℕ → List ℕ → Bool
same [] [] = true
same [] (c ∷ t) = false
same (b ∷ s) [] = false
same (b ∷ s) (c ∷ t) = and (eqb b c) (same s t)

-- the value of a key, or that there is none
pub data Value : Type 0 where
  value : Tree → Value
  absent : Value

-- what follows from the value, or from there being none
abbrev pub at : {X : Type 0} → (Tree → X) → X → Value → X
at f x (value v) = f v
at f x absent = x

-- the value of the key s among these pairs
unfoldable pub value_of : List ℕ → List Field → Value
value_of s [] = absent
value_of s (field k v ∷ fs) = pick (same s (text_of k)) (value v) (value_of s fs)

-- "then the upper's new ones": the pairs of the upper whose keys the lower has not
unfoldable pub new_ones : List Field → List Field → List Field
new_ones fs [] = []
new_ones fs (field k w ∷ gs) = at (λ v. new_ones fs gs) (field k w ∷ new_ones fs gs) (value_of (text_of k) fs)

-- something given, or a clash; what follows from what is given
pub data OrClash (X : Type 0) : Type 0 where
  laid : X → OrClash X
  clash : OrClash X

abbrev pub onward : {X Y : Type 0} → OrClash X → (X → OrClash Y) → OrClash Y
onward (laid x) f = f x
onward clash f = clash

-- a tree, or a clash
abbrev pub Laid : Type 0
Laid = OrClash Tree

-- two objects, two others; "one object against one other value is .. CLASH"
abbrev pub meet : Bool → Bool → Laid → Laid → Laid
meet true true objects others = objects
meet true false objects others = clash
meet false true objects others = clash
meet false false objects others = others

-- THE UPPER LAID OVER THE LOWER; the spans are those of the two trees still
unfoldable mutual
  -- "objects are laid over each other in the same way, two others are answered by the upper"; "Keys keep the lower's order, then the upper's new ones"
  pub lay : Tree → Tree → Laid
  lay (leaf k a e s) u = meet false (is_object u) clash (laid u)
  lay (node k a e c ts) u =
      meet (eqb k OBJECT) (is_object u) (onward (lay_pairs ts (pairs u)) (λ fs. laid (object_tree a e (fs ++ new_ones (pairs_of ts) (pairs u))))) (laid u)

  -- the lower's pairs: "A key in one only is kept; in both", the upper's value is laid over the lower's; from a key on
  pub lay_pairs : Forest → List Field → OrClash (List Field)
  lay_pairs none gs = laid []
  lay_pairs (more k ts) gs = lay_pair ts k gs

  -- .. from the value of the key k on
  pub lay_pair : Forest → Tree → List Field → OrClash (List Field)
  lay_pair none k gs = laid []
  lay_pair (more v ts) k gs = onward (at (λ w. lay v w) (laid v) (value_of (text_of k) gs)) (λ x. onward (lay_pairs ts gs) (λ fs. laid (field k x ∷ fs)))

-- THE OVERLAY. "Spans of the result are zero"
unfoldable pub overlay : Tree → Tree → Laid
overlay lower upper = onward (lay lower upper) (λ t. laid (unspan t))
