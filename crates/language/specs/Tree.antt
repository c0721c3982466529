-- THE TREE that a document gives, with spans and decoded texts; its rows and its text (01, What the reader takes and gives). Assumes nothing.
use Rattle.std.specs.Prelude.{List, [], ◌∷◌, ◌++◌, ℕ, suc, ◌+◌, length, leb}
use Rattle.notation.specs.Class.{pick}
use Rattle.language.specs.Kind.{TRUE, ARRAY, OBJECT, KEY}

-- A DECODED TEXT: its bytes, and "the count of its escapes, one per backslash form" (02, Ticket 2)
pub record Decoded : Type 0 where
  pub bytes : List ℕ
  pub escapes : ℕ

-- without escapes; what one escape stands for
abbrev pub unescaped : List ℕ → Decoded
unescaped s = record { bytes = s; escapes = 0 }

abbrev pub escaped : List ℕ → Decoded
escaped s = record { bytes = s; escapes = 1 }

-- "hands the sum upward": texts one behind another
infixr 5 ◌then◌
abbrev pub ◌then◌ : Decoded → Decoded → Decoded
s then u = record { bytes = s.bytes ++ u.bytes; escapes = s.escapes + u.escapes }

abbrev pub together : List Decoded → Decoded
together [] = unescaped []
together (s ∷ ss) = s then together ss

-- A scalar or a key: its kind, the first byte of its span, the byte after it, its text. A container: its kind, its span, its count, its children.
-- "A key's row stands just before its value's row, with the object as parent of both": so an object's children are key, value, key, value.
mutual
  pub data Tree : Type 0 where
    leaf : ℕ → ℕ → ℕ → Decoded → Tree
    node : ℕ → ℕ → ℕ → ℕ → Forest → Tree

  pub data Forest : Type 0 where
    none : Forest
    more : Tree → Forest → Forest

abbrev pub forest : List Tree → Forest
forest [] = none
forest (t ∷ ts) = more t (forest ts)

abbrev pub count : {X : Type 0} → List X → ℕ
count [] = 0
count (x ∷ xs) = suc (count xs)

abbrev pub first : Tree → ℕ
first (leaf k a e s) = a
first (node k a e c ts) = a

abbrev pub after : Tree → ℕ
after (leaf k a e s) = e
after (node k a e c ts) = e

-- A property or pair: a key and its value. An entry of a block array: the place of its dash, and its item.
pub data Field : Type 0 where
  field : Tree → Tree → Field

pub data Entry : Type 0 where
  entry : ℕ → Tree → Entry

abbrev pub fields : List Field → List Tree
fields [] = []
fields (field k v ∷ fs) = k ∷ v ∷ fields fs

abbrev pub entries : List Entry → List Tree
entries [] = []
entries (entry d v ∷ es) = v ∷ entries es

abbrev pub end_of : ℕ → List Tree → ℕ
end_of e [] = e
end_of e (t ∷ ts) = end_of (after t) ts

-- containers, with the span given; their count is that of the elements or pairs
abbrev pub array_tree : ℕ → ℕ → List Tree → Tree
array_tree a e ts = node ARRAY a e (count ts) (forest ts)

abbrev pub object_tree : ℕ → ℕ → List Field → Tree
object_tree a e fs = node OBJECT a e (count fs) (forest (fields fs))

-- "of a block array or object, from its first dash or key to the end of its last child" (01, Blocks, Span)
abbrev pub block_array : List Entry → Tree
block_array [] = array_tree 0 0 []
block_array (entry d v ∷ es) = array_tree d (end_of 0 (v ∷ entries es)) (v ∷ entries es)

abbrev pub block_object : List Field → Tree
block_object [] = object_tree 0 0 []
block_object (field k v ∷ fs) = object_tree (first k) (end_of 0 (fields (field k v ∷ fs))) (field k v ∷ fs)

-- THE ROWS. "Rows stand in document order" (01); "A row is nine words" (02, Ticket 8)
abbrev pub width : ℕ
width = 9

-- how the lines and columns of places are told; where none are, both words are 0
pub record Positions : Type 0 where
  pub line : ℕ → ℕ
  pub column : ℕ → ℕ

abbrev pub unlined : Positions
unlined = record { line = λ _. 0; column = λ _. 0 }

-- kind; first byte of the span; byte after it; text start; text end; parent row; row after the last descendant; "the line of its first byte .. and the column"
abbrev pub row_list : Positions → ℕ → ℕ → ℕ → ℕ → ℕ → ℕ → ℕ → List ℕ
row_list L k a e s t p n = k ∷ a ∷ e ∷ s ∷ t ∷ p ∷ n ∷ L.line a ∷ L.column a ∷ []

unfoldable mutual
  pub size : Tree → ℕ
  size (leaf k a e s) = 1
  size (node k a e c ts) = suc (sizes ts)

  pub sizes : Forest → ℕ
  sizes none = 0
  sizes (more t ts) = size t + sizes ts

-- "Other texts follow one another in row order from 0 without gaps"
unfoldable mutual
  pub text_of : Tree → List ℕ
  text_of (leaf k a e s) = s.bytes
  text_of (node k a e c ts) = texts_of ts

  pub texts_of : Forest → List ℕ
  texts_of none = []
  texts_of (more t ts) = text_of t ++ texts_of ts

-- "the document's total": the escapes of all its keys and values (02, Ticket 2)
unfoldable mutual
  pub escapes_of : Tree → ℕ
  escapes_of (leaf k a e s) = s.escapes
  escapes_of (node k a e c ts) = escapes_in ts

  pub escapes_in : Forest → ℕ
  escapes_in none = 0
  escapes_in (more t ts) = escapes_of t + escapes_in ts

-- "For kinds 1 to 3 both text words are 0"
abbrev pub leaf_row : Positions → ℕ → ℕ → ℕ → ℕ → ℕ → ℕ → List ℕ → List ℕ
leaf_row L r p x k a e s =
    pick (leb k TRUE) (row_list L k a e 0 0 p (r + 1)) (row_list L k a e x (x + length s) p (r + 1))

-- the rows of a tree from the row r, with the parent p, and the text from x on; "For 8 and 9 text start is 0 and text end is the number of elements or pairs"
unfoldable mutual
  pub rows_of : Positions → ℕ → ℕ → ℕ → Tree → List ℕ
  rows_of L r p x (leaf k a e s) = leaf_row L r p x k a e s.bytes
  rows_of L r p x (node k a e c ts) = row_list L k a e 0 c p (r + 1 + sizes ts) ++ rowss L (r + 1) r x ts

  pub rowss : Positions → ℕ → ℕ → ℕ → Forest → List ℕ
  rowss L r p x none = []
  rowss L r p x (more t ts) = rows_of L r p x t ++ rowss L (r + size t) p (x + length (text_of t)) ts

-- EQUAL KEYS. A key of this text, which starts at a, stands among these children; how it is escaped is not asked
pub data Has (s : List ℕ) (a : ℕ) : Forest → Type 0 where
  has_here : {e n : ℕ} {ts : Forest} → Has s a (more (leaf KEY a e (record { bytes = s; escapes = n })) ts)
  has_later : {t : Tree} {ts : Forest} → Has s a ts → Has s a (more t ts)

-- "two equal decoded keys in one object" (01, Numbers of refusal, REPEAT): the key that starts at p equals an earlier one of its object
mutual
  pub data Repeats (p : ℕ) : Tree → Type 0 where
    inside : {k a e c : ℕ} {ts : Forest} → Repeated p ts → Repeats p (node k a e c ts)

  pub data Repeated (p : ℕ) : Forest → Type 0 where
    again : {a e n : ℕ} {s : List ℕ} {ts : Forest} → Has s p ts → Repeated p (more (leaf KEY a e (record { bytes = s; escapes = n })) ts)
    below : {t : Tree} {ts : Forest} → Repeats p t → Repeated p (more t ts)
    beside : {t : Tree} {ts : Forest} → Repeated p ts → Repeated p (more t ts)

-- no object of the tree has two equal keys
abbrev pub Once : Tree → Type 0
Once t = (p : ℕ) → Repeats p t → ⊥
