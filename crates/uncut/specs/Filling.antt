-- FILLING ROOMS FROM STORED BYTES: what the code of a field, of a container's children and of a leaf is asked (`Fill`), what it leaves in the rooms (`Fills`), and how. Assumes nothing.
use Rattle.std.specs.Prelude.{◌≡◌, refl, List, [], Bool, true, false, ℕ, suc, ◌+◌, ◌-◌, ◌*◌, ◌/◌, ◌≤◌, ◌<◌, length, get_or, eqb, leb}
use Rattle.std.proofs.Common.{sym, ap, ap₂, ◌∙◌, arith, le-leb}
use Rattle.std.proofs.lemmas.List.Edits.{sets}
use Rattle.std.proofs.Math.Seq.{slice}
use Rattle.std.proofs.lemmas.Bool.{lt-leb}
use Rattle.notation.specs.Class.{pick}
use Rattle.language.specs.Tree.{Decoded, unlined, Tree, leaf, node, Forest, none, more, width, row_list, size, sizes, text_of, texts_of, rows_of, rowss}
use Rattle.language.specs.Lent.{lent}
use Rattle.rooms.specs.Contract.{ample, Small}
use Rattle.shaped.specs.Shaped.{Scalar, is_null, is_false, is_true, is_an_integer, is_float, is_string, is_bytes, shaped_leaf, shaped_array, shaped_object, Elements, elements_none, elements_more, Pairs, pairs_none, pairs_more}
use Rattle.shaped.specs.Bare.{alike_size, alike_text}
use Rattle.stored.specs.Form.{head, tag}
use Rattle.stored.specs.Old.{content, forms, form, placed, placeds}
use Rattle.stored.specs.OldLengths.{placed_like}
use Rattle.stored.specs.OldLengths.{scalar_content}
use Rattle.stored.specs.Bytes.{At}
use Rattle.uncut.specs.Short.{longest}
use Rattle.fields.specs.Puts.{Puts, puts_none, puts_as}
use Rattle.fields.specs.Rows.{Kept, kept_key, kept_value, Kepts}
use Rattle.uncut.specs.Heads.{Behind, at_slice, field_tag, field_end, field_content}

-- how many trees a forest has
unfoldable pub trees : Forest → ℕ
trees none = 0
trees (more t ts) = suc (trees ts)

pub elements_trees : {k n : ℕ} {ts : Forest} → Elements k n ts → trees ts ≡ n
unfolding trees
elements_trees elements_none = refl
elements_trees (elements_more x y) = ap suc (elements_trees y)

pub pairs_trees : {k n : ℕ} {ts : Forest} → Pairs k n ts → trees ts ≡ 2 * n
unfolding trees
pairs_trees pairs_none = refl
pairs_trees (pairs_more x y z) = let h = pairs_trees z in omega arith

-- the count of a container's members, by its tag and the count of its children
abbrev pub members_of : ℕ → ℕ → ℕ
members_of k n = pick (eqb k 9) (n / 2) n

-- spans are no matter for sizes and texts
pub placed_size : (a : ℕ) (t : Tree) → size (placed a t) ≡ size t
placed_size a t = alike_size (placed a t) t (placed_like a t)

pub placed_text : (a : ℕ) (t : Tree) → text_of (placed a t) ≡ text_of t
placed_text a t = alike_text (placed a t) t (placed_like a t)

module _ (stored : List ℕ) where
  -- ASKED of the whole: a tree's field stands at a place; neither its row nor its parent's is ahead of it, and its text is behind it by a head, but for the root's
  pub record Fill (a r p x : ℕ) : Type 0 where
    pub tree : Tree
    pub kept : Kept tree
    pub here : At stored a (form tree)
    pub inside : a + length (form tree) ≤ length stored
    pub few : a + length (form tree) ≤ longest
    pub few_rows : r ≤ a
    pub few_text : x ≤ a - head
    pub parent : p ≤ a

  -- ASKED: a tree's field stands at a place of bytes that stand from b on in others; places, rows and texts are few
  pub record FillAt (b a r p x : ℕ) : Type 0 where
    pub tree : Tree
    pub kept : Kept tree
    pub here : At stored a (form tree)
    pub inside : a + length (form tree) ≤ length stored
    pub few : a + length (form tree) ≤ longest
    pub few_bytes : b + (a + length (form tree)) ≤ lent
    pub few_rows : r + size tree ≤ lent
    pub few_text : x + length (text_of tree) ≤ lent
    pub parent : p ≤ lent

  -- the field at a place is a container's
  pub record Container (a : ℕ) : Type 0 where
    pub least : 8 ≤ get_or stored a 0
    pub most : get_or stored a 0 ≤ 9

  -- .. of a scalar or a key, and of a container, up to e, whose text has room in w bytes
  pub record FillLeaf (w b a e r p x : ℕ) : Type 0 where
    pub asked : FillAt b a r p x
    pub ends : Behind stored a e
    pub other : Container a → ⊥
    pub room : x + length (text_of asked.tree) ≤ w

  pub record FillNode (w b a e r p x : ℕ) : Type 0 where
    pub asked : FillAt b a r p x
    pub ends : Behind stored a e
    pub container : Container a
    pub room : x + length (text_of asked.tree) ≤ w

  -- .. the fields of trees, from a place up to another
  pub record FillAll (b a e r p x : ℕ) : Type 0 where
    pub trees : Forest
    pub kept : Kepts trees
    pub here : At stored a (forms trees)
    pub total : a + length (forms trees) ≡ e
    pub inside : e ≤ length stored
    pub few : e ≤ longest
    pub few_bytes : b + e ≤ lent
    pub few_rows : r + sizes trees ≤ lent
    pub few_text : x + length (texts_of trees) ≤ lent
    pub parent : p ≤ lent

  -- .. whose texts have room
  pub record FillRoom (w b a e r p x : ℕ) : Type 0 where
    pub asked : FillAll b a e r p x
    pub room : x + length (texts_of asked.trees) ≤ w

  -- .. the whole is the field of one
  pub record FillRoot (w : ℕ) : Type 0 where
    pub asked : Fill 0 0 0 0
    pub whole : length (form asked.tree) ≡ length stored
    pub room : length (text_of asked.tree) ≤ w

-- PROMISED: the rows and the text of the tree as it is placed stand in the rooms, up to row r' and text byte x'
pub record Fills (t : Tree) (a r p x r' x' : ℕ) (table table' text text' : List ℕ) : Type 0 where
  pub row : r' ≡ r + size t
  pub rows : Puts (rows_of unlined r p x (placed a t)) (width * r) (width * r') table table'
  pub bytes : Puts (text_of t) x x' text text'

-- .. of the trees, n in all
pub record FillsAll (ts : Forest) (a r p x r' x' n : ℕ) (table table' text text' : List ℕ) : Type 0 where
  pub row : r' ≡ r + sizes ts
  pub count : n ≡ trees ts
  pub rows : Puts (rowss unlined r p x (placeds a ts)) (width * r) (width * r') table table'
  pub bytes : Puts (texts_of ts) x x' text text'

-- the rows and the text of a tree as it is placed stand at the start of the rooms
pub record FilledRooms (t : Tree) (table table' text text' : List ℕ) : Type 0 where
  pub rows : table' ≡ sets table 0 (rows_of unlined 0 0 0 (placed 0 t))
  pub bytes : text' ≡ sets text 0 (text_of t)

-- the numbers of a row fit, and its tag stands in the n stored bytes
pub record Placing (n b a e r p from to next : ℕ) : Type 0 where
  pub inside : a < n
  pub row : r < ample
  pub parent : p < ample
  pub small : Small (b + a) (b + e) from to next

-- ---- a leaf, by its tag

record Leafed (a : ℕ) (t : Tree) (r p x e : ℕ) : Type 0 where
  rows_are : rows_of unlined r p x (placed a t) ≡ row_list unlined (tag t) a e (pick (leb (tag t) 3) 0 x) (pick (leb (tag t) 3) 0 (x + length (text_of t))) p (r + 1)
  one : size t ≡ 1
  text_is : content t ≡ text_of t

leaf_list : (b : Bool) (k a e x y p n : ℕ) → pick b (row_list unlined k a e 0 0 p n) (row_list unlined k a e x y p n) ≡ row_list unlined k a e (pick b 0 x) (pick b 0 y) p n
leaf_list true k a e x y p n = refl
leaf_list false k a e x y p n = refl

leaf_rows : (a k f e : ℕ) (s : Decoded) (r p x end : ℕ) → end ≡ a + length (form (leaf k f e s)) → content (leaf k f e s) ≡ s.bytes → Leafed a (leaf k f e s) r p x end
unfolding placed rows_of size text_of
leaf_rows a k f e s r p x end h c =
    record {
      rows_are =
          leaf_list (leb k 3) k a (a + length (form (leaf k f e s))) x (x + length s.bytes) p (r + 1)
          ∙ ap (λ (i : ℕ). row_list unlined k a i (pick (leb k 3) 0 x) (pick (leb k 3) 0 (x + length s.bytes)) p (r + 1)) (sym h);
      one = refl;
      text_is = c;
    }

kept_leaf : (a : ℕ) (t : Tree) (r p x e : ℕ) → Kept t → (tag t ≡ 8 → ⊥) → (tag t ≡ 9 → ⊥) → e ≡ a + length (form t) → Leafed a t r p x e
unfolding content
kept_leaf a (leaf k f e s) r p x end (kept_key y) m n h = leaf_rows a k f e s r p x end h refl
kept_leaf a (leaf k f e s) r p x end (kept_value (shaped_leaf y)) m n h = leaf_rows a k f e s r p x end h (scalar_content k f e s y)
kept_leaf a (node k f e c ts) r p x end (kept_value (shaped_array y)) m n h = absurd (m refl)
kept_leaf a (node k f e c ts) r p x end (kept_value (shaped_object y)) m n h = absurd (n refl)

-- kinds 1 to 3 have no text
scalar_bare : {kind : ℕ} {s : List ℕ} → Scalar kind s → kind < 4 → s ≡ []
scalar_bare is_null l = refl
scalar_bare is_false l = refl
scalar_bare is_true l = refl
scalar_bare (is_an_integer x) l = absurd (omega arith)
scalar_bare (is_float x) l = absurd (omega arith)
scalar_bare (is_string x) l = absurd (omega arith)
scalar_bare (is_bytes x) l = absurd (omega arith)

pub kept_bare : (t : Tree) → Kept t → tag t < 4 → text_of t ≡ []
unfolding text_of
kept_bare (leaf k f e s) (kept_key y) l = absurd (omega arith)
kept_bare (leaf k f e s) (kept_value (shaped_leaf y)) l = scalar_bare y l
kept_bare (node k f e c ts) (kept_value (shaped_array y)) l = absurd (omega arith)
kept_bare (node k f e c ts) (kept_value (shaped_object y)) l = absurd (omega arith)

module _ (stored : List ℕ) {b a r p x : ℕ} (h : FillAt stored b a r p x) where
  -- ---- what the bytes of the head say

  pub tag_is : get_or stored a 0 ≡ tag h.tree
  tag_is = field_tag h.tree h.here

  pub end_is : {e : ℕ} → Behind stored a e → e ≡ a + length (form h.tree)
  end_is f = f.is ∙ field_end h.tree h.here

  pub head_inside : a + 3 ≤ length stored
  head_inside = omega (arith, h.inside)

  module _ {e : ℕ} (f : e ≡ a + length (form h.tree)) where
    far : b + e ≡ b + a + length (form h.tree)
    far = omega arith

    content_slice : slice (a + head) e stored ≡ content h.tree
    content_slice = at_slice {e = e} (content h.tree) (field_content h.tree h.here) (omega arith) (omega (arith, h.inside))

    -- A NULL, FALSE OR TRUE: its row, and no text
    pub fill_bare : {table table' text : List ℕ} → get_or stored a 0 < 4 → table' ≡ sets table (width * r) (row_list unlined (get_or stored a 0) (b + a) (b + e) 0 0 p (r + 1))
        → Fills h.tree (b + a) r p x (r + 1) x table table' text text
    fill_bare {table} {table'} {text} l w =
        let k = tag_is in
        let t = h.tree in
        let y = kept_leaf (b + a) t r p x (b + e) h.kept (λ z. omega arith) (λ z. omega arith) far in
        let o = kept_bare t h.kept (omega arith) in
        let i : leb (tag t) 3 ≡ true = le-leb (tag t) 3 (omega arith) in
        let z : rows_of unlined r p x (placed (b + a) t) ≡ row_list unlined (get_or stored a 0) (b + a) (b + e) 0 0 p (r + 1) =
        y.rows_are ∙ (ap (λ c. row_list unlined (tag t) (b + a) (b + e) (pick c 0 x) (pick c 0 (x + length (text_of t))) p (r + 1)) i ∙ ap (λ (j : ℕ). row_list unlined j (b + a) (b + e) 0 0 p (r + 1)) (sym k)) in
        record {
          row = omega (arith, y.one);
          rows = puts_as (sym z) (record { ends = omega arith; holds = w });
          bytes = puts_as (sym o) puts_none;
        }

    -- the text of a scalar or a key is its content
    pub leaf_text : (get_or stored a 0 ≡ 8 → ⊥) → (get_or stored a 0 ≡ 9 → ⊥) → length (text_of h.tree) ≡ e - (a + 3)
    leaf_text m n =
        let k = tag_is in
        let y = kept_leaf (b + a) h.tree r p x (b + e) h.kept (λ z. m (k ∙ z)) (λ z. n (k ∙ z)) far in
        omega (arith, ap length y.text_is)

    -- A SCALAR WITH A TEXT, OR A KEY: its row and its text
    module _ {x' : ℕ} (g : x' ≡ x + (e - (a + 3))) where
      pub fill_text : {table table' text text' : List ℕ} → 4 ≤ get_or stored a 0 → (get_or stored a 0 ≡ 8 → ⊥) → (get_or stored a 0 ≡ 9 → ⊥)
          → table' ≡ sets table (width * r) (row_list unlined (get_or stored a 0) (b + a) (b + e) x x' p (r + 1)) → text' ≡ sets text x (slice (a + 3) e stored) → Fills h.tree (b + a) r p x (r + 1) x' table table' text text'
      fill_text {table} {table'} {text} {text'} l m n w v =
          let k = tag_is in
          let t = h.tree in
          let y = kept_leaf (b + a) t r p x (b + e) h.kept (λ z. m (k ∙ z)) (λ z. n (k ∙ z)) far in
          let s : slice (a + 3) e stored ≡ text_of t = content_slice ∙ y.text_is in
          let j : x' ≡ x + length (text_of t) = omega (arith, ap length y.text_is) in
          let i : leb (tag t) 3 ≡ false = lt-leb (tag t) 3 (omega arith) in
          let z : rows_of unlined r p x (placed (b + a) t) ≡ row_list unlined (get_or stored a 0) (b + a) (b + e) x x' p (r + 1) =
          y.rows_are ∙ (ap (λ c. row_list unlined (tag t) (b + a) (b + e) (pick c 0 x) (pick c 0 (x + length (text_of t))) p (r + 1)) i ∙ ap₂ (λ q o. row_list unlined q (b + a) (b + e) x o p (r + 1)) (sym k) (sym j)) in
          record {
            row = omega (arith, y.one);
            rows = puts_as (sym z) (record { ends = omega arith; holds = w });
            bytes = puts_as s (record { ends = omega (arith, ap length s); holds = v });
          }
