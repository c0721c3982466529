-- THE ROWS OF A TREE WHERE THEY STAND in a table, and its text in a text room: each row of it is that of its own part of the tree. Assumes nothing.
use Rattle.std.specs.Prelude.{◌≡◌, List, Bool, ℕ, ◌+◌, ◌*◌, ◌≤◌, ◌<◌, leb}
use Rattle.std.proofs.Math.Path.{refl}
use Rattle.std.proofs.Common.{◌∙◌}
use Rattle.std.proofs.Math.Bool.{true, false}
use native.Mathlib.Omega.{arith}
use Rattle.std.proofs.Math.ListN.{length, get_or, length-append}
use Rattle.notation.specs.Class.{pick}
use Rattle.language.specs.Kind.{TRUE}
use Rattle.language.specs.Tree.{Positions, Decoded, Tree, leaf, node, Forest, more, width, size, sizes, text_of, texts_of, row_list, leaf_row, rows_of, rowss}
use Rattle.language.specs.Lent.{bytes_in}
use Rattle.rooms.specs.Forest.{length_rows}
use Rattle.questions.specs.Table.{word}
use Rattle.found.specs.Objects.{RowOf, own, within, RowAmong, in_first, in_further}
use Rattle.found.specs.Stands.{Stands, stands_left, stands_right, stands_word}

module _ (table room : List ℕ) (n : ℕ) where
  -- the rows of t stand from row r on, its text stands in what the room counts for, and both end in time
  pub record Placed (r : ℕ) (t : Tree) : Type 0 where
    pub parent : ℕ
    pub from : ℕ
    pub lines : Positions
    pub rows : Stands table (width * r) (rows_of lines r parent from t)
    pub text : Stands room from (text_of t)
    pub counts : from + length (text_of t) ≤ bytes_in room
    pub last : r + size t ≤ n

  -- .. of trees one after another
  pub record PlacedAll (r : ℕ) (ts : Forest) : Type 0 where
    pub parent : ℕ
    pub from : ℕ
    pub lines : Positions
    pub rows : Stands table (width * r) (rowss lines r parent from ts)
    pub text : Stands room from (texts_of ts)
    pub counts : from + length (texts_of ts) ≤ bytes_in room
    pub last : r + sizes ts ≤ n

  pub children : (r k a e c : ℕ) (ts : Forest) → Placed r (node k a e c ts) → PlacedAll (r + 1) ts
  unfolding size rows_of text_of
  children r k a e c ts p =
      record {
        parent = r;
        from = p.from;
        lines = p.lines;
        rows = stands_right (row_list p.lines k a e 0 c p.parent (r + 1 + sizes ts)) (rowss p.lines (r + 1) r p.from ts) p.rows (width * (r + 1)) (omega arith);
        text = p.text;
        counts = p.counts;
        last = omega (arith, p.last);
      }

  module _ (r : ℕ) (t : Tree) (ts : Forest) (p : PlacedAll r (more t ts)) where
    pub head_placed : Placed r t
    unfolding size rows_of text_of
    head_placed =
        record {
          parent = p.parent;
          from = p.from;
          lines = p.lines;
          rows = stands_left (rows_of p.lines r p.parent p.from t) (rowss p.lines (r + size t) p.parent (p.from + length (text_of t)) ts) p.rows;
          text = stands_left (text_of t) (texts_of ts) p.text;
          counts = omega (arith, p.counts, length-append (text_of t) (texts_of ts));
          last = omega (arith, p.last);
        }

    pub tail_placed : PlacedAll (r + size t) ts
    unfolding size rows_of text_of
    tail_placed =
        record {
          parent = p.parent;
          from = p.from + length (text_of t);
          lines = p.lines;
          rows =
              stands_right (rows_of p.lines r p.parent p.from t) (rowss p.lines (r + size t) p.parent (p.from + length (text_of t)) ts) p.rows (width * (r + size t))
              (omega (arith, length_rows p.lines r p.parent p.from t));
          text = stands_right (text_of t) (texts_of ts) p.text (p.from + length (text_of t)) refl;
          counts = omega (arith, p.counts, length-append (text_of t) (texts_of ts));
          last = omega (arith, p.last);
        }

  -- ---- the words of a row

  pub leaf_word : (r k a e : ℕ) (s : Decoded) (p : Placed r (leaf k a e s)) (j : ℕ) → j < width
      → word table r j ≡ get_or (leaf_row p.lines r p.parent p.from k a e s.bytes) j 0
  unfolding word rows_of size
  leaf_word r k a e s p j h = stands_word p.rows j (omega (arith, length_rows p.lines r p.parent p.from (leaf k a e s)))

  pub node_word : (r k a e c : ℕ) (ts : Forest) (p : Placed r (node k a e c ts)) (j : ℕ) → j < width
      → word table r j ≡ get_or (row_list p.lines k a e 0 c p.parent (r + 1 + sizes ts)) j 0
  unfolding word rows_of
  node_word r k a e c ts p j h =
      stands_word (stands_left (row_list p.lines k a e 0 c p.parent (r + 1 + sizes ts)) (rowss p.lines (r + 1) r p.from ts) p.rows) j (omega arith)

  -- "row after the last descendant"
  pub next_word : (r : ℕ) (t : Tree) → Placed r t → word table r 6 ≡ r + size t
  unfolding size
  next_word r (leaf k a e s) p = leaf_word r k a e s p 6 (omega arith) ∙ by (leb k TRUE)
    where
      by : (y : Bool) → get_or (pick y (row_list p.lines k a e 0 0 p.parent (r + 1)) (row_list p.lines k a e p.from (p.from + length s.bytes) p.parent (r + 1))) 6 0 ≡ r + 1
      by true = refl
      by false = refl
  next_word r (node k a e c ts) p = node_word r k a e c ts p 6 (omega arith) ∙ omega arith

pub size_some : (t : Tree) → 1 ≤ size t
unfolding size
size_some (leaf k a e s) = omega arith
size_some (node k a e c ts) = omega arith
