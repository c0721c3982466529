-- THE ROWS OF A TREE STAND IN A TABLE from a row on, spans aside, and its text in a text room (`RowsAt`): taken apart and put together, row by row. Assumes nothing.
use Rattle.std.specs.Prelude.{◌≡◌, Bool, true, false, ℕ, ◌+◌, ◌*◌, ◌≤◌, get_or, drop, leb}
use Rattle.std.proofs.Math.Path.{refl, subst}
use Rattle.std.proofs.Common.{sym, ap, ◌∙◌, drop-drop}
use mathlib.Core.List.{List, ◌++◌}
use native.Mathlib.Omega.{arith}
use Rattle.std.proofs.Math.ListN.{length}
use Rattle.notation.specs.Class.{pick}
use Rattle.language.specs.Kind.{TRUE}
use Rattle.language.specs.Tree.{Positions, unlined, Decoded, Tree, leaf, node, Forest, none, more, width, size, sizes, text_of, texts_of, row_list, rows_of, rowss}
use Rattle.language.specs.Lent.{bytes_in}
use Rattle.spans.specs.Formed.{kind_of}
use Rattle.rooms.specs.Forest.{length_rows}
use Rattle.shaped.specs.Asked.{Same, same_none, same_left, same_right, same_join}
use Rattle.shaped.specs.RowIs.{RowIs, row_is, is_row}
use Rattle.shaped.specs.TextAt.{TextAt, text_none, text_left, text_right, text_join}

-- a text word of a leaf: "For kinds 1 to 3 both text words are 0"
abbrev pub text_word : ℕ → ℕ → ℕ
text_word k x = pick (leb k TRUE) 0 x

pub leaf_list : (c : Bool) (L : Positions) (k a e x y p n : ℕ) → pick c (row_list L k a e 0 0 p n) (row_list L k a e x y p n) ≡ row_list L k a e (pick c 0 x) (pick c 0 y) p n
leaf_list true L k a e x y p n = refl
leaf_list false L k a e x y p n = refl

module _ (table text : List ℕ) where
  -- the asked words from row r on are those of the tree's rows, with the parent p, and its text stands from x on
  pub record RowsAt (r p x : ℕ) (t : Tree) : Type 0 where
    pub rows : Same (drop (width * r) table) (rows_of unlined r p x t) (size t)
    pub text_is : TextAt text x (text_of t)

  -- .. of trees one after another
  pub record ForestAt (r p x : ℕ) (ts : Forest) : Type 0 where
    pub rows : Same (drop (width * r) table) (rowss unlined r p x ts) (sizes ts)
    pub text_is : TextAt text x (texts_of ts)

  -- m rows on
  further : (r m q : ℕ) → q ≡ r + m → drop (width * m) (drop (width * r) table) ≡ drop (width * q) table
  further r m q h = drop-drop (width * m) (width * r) table ∙ ap (λ (i : ℕ). drop i table) (let e : width * r + width * m ≡ width * q = omega arith in e)

  -- A LEAF: its row and its text
  module _ {r p x k a e : ℕ} {s : Decoded} where
    pub leaf_at : RowIs table r k (text_word k x) (text_word k (x + length s.bytes)) p (r + 1) → TextAt text x s.bytes → RowsAt r p x (leaf k a e s)
    unfolding rows_of size text_of
    leaf_at h t =
        record {
          rows =
              subst
              (λ (l : List ℕ). Same (drop (width * r) table) l 1)
              (sym (leaf_list (leb k TRUE) unlined k a e x (x + length s.bytes) p (r + 1)))
              (is_row table r unlined k a e (text_word k x) (text_word k (x + length s.bytes)) p (r + 1) h);
          text_is = t;
        }

    pub leaf_row : RowsAt r p x (leaf k a e s) → RowIs table r k (text_word k x) (text_word k (x + length s.bytes)) p (r + 1)
    unfolding rows_of size
    leaf_row h =
        row_is table r unlined k a e (text_word k x) (text_word k (x + length s.bytes)) p (r + 1)
        (subst (λ (l : List ℕ). Same (drop (width * r) table) l 1) (leaf_list (leb k TRUE) unlined k a e x (x + length s.bytes) p (r + 1)) h.rows)

    pub leaf_text : RowsAt r p x (leaf k a e s) → TextAt text x s.bytes
    unfolding text_of
    leaf_text h = h.text_is

  -- A CONTAINER: its row, "For 8 and 9 text start is 0 and text end is the number of elements or pairs", and its children's rows
  module _ {r p x k a e c : ℕ} {ts : Forest} where
    pub node_at : RowIs table r k 0 c p (r + 1 + sizes ts) → ForestAt (r + 1) r x ts → RowsAt r p x (node k a e c ts)
    unfolding rows_of size text_of
    node_at h f =
        let w = row_list unlined k a e 0 c p (r + 1 + sizes ts) in
        let v = rowss unlined (r + 1) r x ts in
        let i = is_row table r unlined k a e 0 c p (r + 1 + sizes ts) h in
        let j = subst (λ (l : List ℕ). Same l v (sizes ts)) (sym (further r 1 (r + 1) refl)) f.rows in
        record { rows = subst (Same (drop (width * r) table) (w ++ v)) (omega arith) (same_join w v 1 (sizes ts) refl i j); text_is = f.text_is }

    all : RowsAt r p x (node k a e c ts) → Same (drop (width * r) table) (row_list unlined k a e 0 c p (r + 1 + sizes ts) ++ rowss unlined (r + 1) r x ts) (1 + sizes ts)
    unfolding rows_of size
    all h = subst (Same (drop (width * r) table) (row_list unlined k a e 0 c p (r + 1 + sizes ts) ++ rowss unlined (r + 1) r x ts)) (omega arith) h.rows

    pub node_row : RowsAt r p x (node k a e c ts) → RowIs table r k 0 c p (r + 1 + sizes ts)
    node_row h =
        row_is table r unlined k a e 0 c p (r + 1 + sizes ts)
        (same_left (row_list unlined k a e 0 c p (r + 1 + sizes ts)) (rowss unlined (r + 1) r x ts) 1 (sizes ts) refl (all h))

    pub node_forest : RowsAt r p x (node k a e c ts) → ForestAt (r + 1) r x ts
    unfolding text_of
    node_forest h =
        let v = rowss unlined (r + 1) r x ts in
        let i = same_right (row_list unlined k a e 0 c p (r + 1 + sizes ts)) v 1 (sizes ts) refl (all h) in
        record { rows = subst (λ (l : List ℕ). Same l v (sizes ts)) (further r 1 (r + 1) refl) i; text_is = h.text_is }

  -- NO TREE, and one more in front
  pub none_at : {r p x : ℕ} → x ≤ bytes_in text → ForestAt r p x none
  unfolding sizes texts_of rowss
  none_at h = record { rows = same_none; text_is = text_none h }

  module _ {r p x : ℕ} {t : Tree} {ts : Forest} where
    pub more_at : RowsAt r p x t → ForestAt (r + size t) p (x + length (text_of t)) ts → ForestAt r p x (more t ts)
    unfolding sizes texts_of rowss
    more_at h f =
        let v = rowss unlined (r + size t) p (x + length (text_of t)) ts in
        let j = subst (λ (l : List ℕ). Same l v (sizes ts)) (sym (further r (size t) (r + size t) refl)) f.rows in
        record {
          rows = same_join (rows_of unlined r p x t) v (size t) (sizes ts) (length_rows unlined r p x t) h.rows j;
          text_is = text_join text x (text_of t) (texts_of ts) h.text_is f.text_is;
        }

    pub first_at : ForestAt r p x (more t ts) → RowsAt r p x t
    unfolding sizes texts_of rowss
    first_at f =
        let v = rowss unlined (r + size t) p (x + length (text_of t)) ts in
        record {
          rows = same_left (rows_of unlined r p x t) v (size t) (sizes ts) (length_rows unlined r p x t) f.rows;
          text_is = text_left text x (text_of t) (texts_of ts) f.text_is;
        }

    pub rest_at : ForestAt r p x (more t ts) → ForestAt (r + size t) p (x + length (text_of t)) ts
    unfolding sizes texts_of rowss
    rest_at f =
        let v = rowss unlined (r + size t) p (x + length (text_of t)) ts in
        let i = same_right (rows_of unlined r p x t) v (size t) (sizes ts) (length_rows unlined r p x t) f.rows in
        record {
          rows = subst (λ (l : List ℕ). Same l v (sizes ts)) (further r (size t) (r + size t) refl) i;
          text_is = text_right text x (text_of t) (texts_of ts) f.text_is;
        }

  -- THE ROW OF ANY TREE tells its kind, its parent and how many rows it has
  module _ {r p x : ℕ} where
    pub kind_at_lem : (t : Tree) → RowsAt r p x t → get_or table (width * r) 0 ≡ kind_of t
    kind_at_lem (leaf k a e s) h = (leaf_row h).kind_is
    kind_at_lem (node k a e c ts) h = (node_row h).kind_is

    pub parent_at_lem : (t : Tree) → RowsAt r p x t → get_or table (width * r + 5) 0 ≡ p
    parent_at_lem (leaf k a e s) h = (leaf_row h).parent_is
    parent_at_lem (node k a e c ts) h = (node_row h).parent_is

    pub next_at : (t : Tree) → RowsAt r p x t → get_or table (width * r + 6) 0 ≡ r + size t
    unfolding size
    next_at (leaf k a e s) h = (leaf_row h).next_is
    next_at (node k a e c ts) h = (node_row h).next_is ∙ omega arith

-- put together, row by row
pub ruleset standing = (leaf_at, node_at, none_at, more_at)
