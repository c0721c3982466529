-- WHERE ROWS BEGIN, IN THE WORDS OF A TABLE that holds the rows of a tree: in the order of their first bytes (01, What the reader takes and gives), and with
-- the line and the column of that byte (02, Ticket 8). Assumes nothing.
use Rattle.std.specs.Prelude.{◌≡◌, List, ◌++◌, Bool, true, false, ℕ, zero, suc, ◌+◌, ◌*◌, ◌-◌, ◌≤◌, ◌<◌, length, get_or, leb}
use Rattle.std.proofs.Common.{sym, ap, ◌∙◌, arith, get_or-append-add}
use Rattle.std.proofs.Math.Path.{subst}
use Rattle.std.proofs.Math.ListN.{get_or-append}
use Rattle.notation.specs.Class.{pick}
use Rattle.language.specs.Kind.{TRUE}
use Rattle.language.specs.Tree.{Positions, Tree, leaf, node, Forest, none, more, width, size, sizes, text_of, row_list, leaf_row, rows_of, rowss}
use Rattle.rooms.specs.Forest.{length_rows}
use Rattle.spans.specs.Rising.{firsts, firsts_in, Rising, length_firsts, rising_order}
use Rattle.questions.specs.Table.{word}
use Rattle.lined.specs.Lined.{first_byte}
use Rattle.found.specs.Stands.{Stands, stands_left, stands_right, stands_word}
use Rattle.found.specs.Spans.{either}

-- "the line of its first byte, from 1, and the column in characters, from 1"
abbrev pub row_line : List ℕ → ℕ → ℕ
row_line table r = word table r 7

abbrev pub row_column : List ℕ → ℕ → ℕ
row_column table r = word table r 8

module _ (L : Positions) (table : List ℕ) where
  -- the row r begins at the byte a
  pub record From (r a : ℕ) : Type 0 where
    pub begins : first_byte table r ≡ a
    pub line : row_line table r ≡ L.line a
    pub column : row_column table r ≡ L.column a

  list_from : (b r k a e u v p n : ℕ) → r ≡ b → Stands table (width * b) (row_list L k a e u v p n) → From r a
  unfolding word
  list_from b r k a e u v p n z h = subst (λ (i : ℕ). From i a) (sym z) (record { begins = stands_word h 1 (omega arith); line = stands_word h 7 (omega arith); column = stands_word h 8 (omega arith) })

  leaf_from : (b r p x k a e : ℕ) (s : List ℕ) → r ≡ b → Stands table (width * b) (leaf_row L b p x k a e s) → From r a
  leaf_from b r p x k a e s z h = by (leb k TRUE) h
    where
      by : (y : Bool) → Stands table (width * b) (pick y (row_list L k a e 0 0 p (b + 1)) (row_list L k a e x (x + length s) p (b + 1))) → From r a
      by true g = list_from b r k a e 0 0 p (b + 1) z g
      by false g = list_from b r k a e x (x + length s) p (b + 1) z g

  -- the rows from b on begin where the tree's, or the trees', do, in row order
  mutual
    unfolding size rows_of firsts

    tree_firsts : (b p x : ℕ) (t : Tree) → Stands table (width * b) (rows_of L b p x t) → (i r : ℕ) → r ≡ b + i → i < size t → From r (get_or (firsts t) i 0)
    tree_firsts b p x (leaf k a e s) h zero r z l = leaf_from b r p x k a e s.bytes (omega arith) h
    tree_firsts b p x (leaf k a e s) h (suc i) r z l = absurd (omega arith)
    tree_firsts b p x (node k a e c ts) h zero r z l =
        list_from b r k a e 0 c p (b + 1 + sizes ts) (omega arith) (stands_left (row_list L k a e 0 c p (b + 1 + sizes ts)) (rowss L (b + 1) b x ts) h)
    tree_firsts b p x (node k a e c ts) h (suc i) r z l =
        let w = row_list L k a e 0 c p (b + 1 + sizes ts) in
        forest_firsts (b + 1) b x ts (stands_right w (rowss L (b + 1) b x ts) h (width * (b + 1)) (omega arith)) i r (omega arith) (omega arith)

    forest_firsts : (b p x : ℕ) (ts : Forest) → Stands table (width * b) (rowss L b p x ts) → (i r : ℕ) → r ≡ b + i → i < sizes ts → From r (get_or (firsts_in ts) i 0)
    forest_firsts b p x none h i r z l = absurd (omega arith)
    forest_firsts b p x (more t ts) h i r z l =
        let u = rows_of L b p x t in
        let v = rowss L (b + size t) p (x + length (text_of t)) ts in
        let w = stands_right u v h (width * (b + size t)) (omega (arith, length_rows L b p x t)) in
        let n = length_firsts t in
        let j = i - size t in
        either
        (size t)
        i
        (λ g. subst
        (From r)
        (sym (get_or-append-add (firsts t) (firsts_in ts) j 0) ∙ ap (λ (y : ℕ). get_or (firsts t ++ firsts_in ts) y 0) (omega arith))
        (forest_firsts (b + size t) p (x + length (text_of t)) ts w j r (omega arith) (omega arith)))
        (λ g. subst (From r) (sym (get_or-append (firsts t) (firsts_in ts) 0 i (omega arith))) (tree_firsts b p x t (stands_left u v h) i r z g))

  -- EACH ROW begins with its tree
  pub row_from : (t : Tree) → Stands table 0 (rows_of L 0 0 0 t) → (r : ℕ) → r < size t → From r (get_or (firsts t) r 0)
  row_from t h r l = tree_firsts 0 0 0 t h r r (omega arith) l

  -- ROWS STAND IN THE ORDER OF THEIR FIRST BYTES, where the tree's do
  pub rows_rise : {lo hi : ℕ} (t : Tree) → Stands table 0 (rows_of L 0 0 0 t) → Rising lo (firsts t) hi → (r q : ℕ) → r < q → q < size t → first_byte table r ≤ first_byte table q
  rows_rise t h x r q k l =
      omega (arith, rising_order x r q k (omega (arith, length_firsts t)), (row_from t h r (omega arith)).begins, (row_from t h q l).begins)
