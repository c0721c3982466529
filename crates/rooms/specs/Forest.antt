-- How many words the rows of trees have. Assumes nothing.
use Rattle.std.specs.Prelude.{◌≡◌, refl, List, Bool, true, false, ℕ, ◌+◌, ◌*◌, length, leb}
use Rattle.std.proofs.Common.{arith, length-append}
use Rattle.notation.specs.Class.{pick}
use Rattle.language.specs.Tree.{Positions, width, Tree, leaf, node, Forest, none, more, size, sizes, text_of, rows_of, rowss, row_list}

leaf_length : (y : Bool) (l m : List ℕ) → length l ≡ width → length m ≡ width → length (pick y l m) ≡ width
leaf_length true l m h k = h
leaf_length false l m h k = k

mutual
  unfolding rows_of size

  pub length_rows : (L : Positions) (r p x : ℕ) (t : Tree) → length (rows_of L r p x t) ≡ width * size t
  length_rows L r p x (leaf k a e s) = leaf_length (leb k 3) (row_list L k a e 0 0 p (r + 1)) (row_list L k a e x (x + length s.bytes) p (r + 1)) refl refl
  length_rows L r p x (node k a e c ts) = let h = length_rowss L (r + 1) r x ts in omega arith

  pub length_rowss : (L : Positions) (r p x : ℕ) (ts : Forest) → length (rowss L r p x ts) ≡ width * sizes ts
  length_rowss L r p x none = refl
  length_rowss L r p x (more t ts) =
      let a = length_rows L r p x t in
      let b = length_rowss L (r + size t) p (x + length (text_of t)) ts in
      let c = length-append (rows_of L r p x t) (rowss L (r + size t) p (x + length (text_of t)) ts) in
      omega arith
