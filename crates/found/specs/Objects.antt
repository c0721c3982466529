-- THE OBJECTS OF A TREE, by the numbers of their rows, and their pairs (01, What the reader takes and gives). Assumes nothing.
use Rattle.std.specs.Prelude.{List, [], ◌∷◌, ℕ, ◌+◌}
use Rattle.language.specs.Kind.{OBJECT, KEY}
use Rattle.language.specs.Tree.{Decoded, Tree, leaf, node, Forest, none, more, size}

-- "Rows stand in document order": row r is that of the tree u, where the rows of a tree, or of trees one after another, begin with row b
mutual
  pub data RowOf (r : ℕ) (u : Tree) : ℕ → Tree → Type 0 where
    own : RowOf r u r u
    within : {b k a e c : ℕ} {ts : Forest} → RowAmong r u (b + 1) ts → RowOf r u b (node k a e c ts)

  pub data RowAmong (r : ℕ) (u : Tree) : ℕ → Forest → Type 0 where
    in_first : {b : ℕ} {t : Tree} {ts : Forest} → RowOf r u b t → RowAmong r u b (more t ts)
    in_further : {b : ℕ} {t : Tree} {ts : Forest} → RowAmong r u (b + size t) ts → RowAmong r u b (more t ts)

-- a pair of an object: the text of its key, the row of its value, the value
pub data Pair : Type 0 where
  pair : List ℕ → ℕ → Tree → Pair

-- "A key's row stands just before its value's row": these trees, whose rows begin with row r, are the keys and values of the pairs
pub data Pairs : ℕ → Forest → List Pair → Type 0 where
  no_pair : {r : ℕ} → Pairs r none []
  one_pair : {r a e : ℕ} {s : Decoded} {v : Tree} {ts : Forest} {fs : List Pair} → Pairs (r + 1 + size v) ts fs
      → Pairs r (more (leaf KEY a e s) (more v ts)) (pair s.bytes (r + 1) v ∷ fs)

-- row r of the tree t is that of an object with these pairs
pub data ObjectAt (t : Tree) (r : ℕ) (fs : List Pair) : Type 0 where
  object_at : {a e c : ℕ} {ts : Forest} → RowOf r (node OBJECT a e c ts) 0 t → Pairs (r + 1) ts fs → ObjectAt t r fs

-- one of the pairs has the key s, and its value v stands in row i
pub data Holds (s : List ℕ) (i : ℕ) (v : Tree) : List Pair → Type 0 where
  held : {fs : List Pair} → Holds s i v (pair s i v ∷ fs)
  held_later : {f : Pair} {fs : List Pair} → Holds s i v fs → Holds s i v (f ∷ fs)

-- the value of the key s stands in row i
pub record ValueAt (fs : List Pair) (s : List ℕ) (i : ℕ) : Type 0 where
  pub value : Tree
  pub holds : Holds s i value fs

-- none of the pairs has the key s
abbrev pub NoKey : List Pair → List ℕ → Type 0
NoKey fs s = (i : ℕ) → ValueAt fs s i → ⊥
