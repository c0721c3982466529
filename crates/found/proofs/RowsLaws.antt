-- THE ROWS OF A TREE WHERE THEY STAND in a table, and its text in a text room: each row of it is that of its own part of the tree. Assumes nothing.
use Rattle.std.specs.Prelude.{◌≡◌, List, Bool, ℕ, ◌+◌, ◌*◌, ◌≤◌, ◌<◌, leb}
use Rattle.std.proofs.Math.Path.{refl}
use Rattle.std.proofs.Common.{◌∙◌}
use Rattle.std.proofs.Math.Bool.{true, false}
use native.Mathlib.Omega.{arith}
use Rattle.std.proofs.Math.ListN.{length, get_or, length-append}
use Rattle.notation.specs.Class.{pick}
use Rattle.language.specs.Kind.{TRUE}
use Rattle.language.specs.Tree.{Positions, Decoded, Tree, leaf, node, Forest, more, width, size, sizes, text_of, texts_of, row_list, leaf_row, rows_of, rowss}
use Rattle.language.specs.Lent.{bytes_in}
use Rattle.rooms.specs.Forest.{length_rows}
use Rattle.questions.specs.Table.{word}
use Rattle.found.specs.Objects.{RowOf, own, within, RowAmong, in_first, in_further}
use Rattle.found.specs.Stands.{Stands, stands_left, stands_right, stands_word}
use Rattle.found.specs.Rows.{Placed, PlacedAll, children, head_placed, tail_placed}

module _ (table room : List ℕ) (n : ℕ) where
  -- EACH ROW is that of its own part of the tree
  mutual
    pub row_placed : {r b : ℕ} {u t : Tree} → RowOf r u b t → (Placed table room n) b t → (Placed table room n) r u
    row_placed own p = p
    row_placed (within {b = b} {k = k} {a = a} {e = e} {c = c} {ts = ts} x) p = among_placed x ((children table room n) b k a e c ts p)

    pub among_placed : {r b : ℕ} {u : Tree} {ts : Forest} → RowAmong r u b ts → (PlacedAll table room n) b ts → (Placed table room n) r u
    among_placed (in_first {b = b} {t = t} {ts = ts} x) p = row_placed x ((head_placed table room n) b t ts p)
    among_placed (in_further {b = b} {t = t} {ts = ts} x) p = among_placed x ((tail_placed table room n) b t ts p)
