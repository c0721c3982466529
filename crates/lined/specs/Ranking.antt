-- A DOCUMENT'S ROWS MAY BE LINED: they stand in the order of their first bytes (`ranked_rows`). Assumes nothing.
use Rattle.std.specs.Prelude.{◌≡◌, refl, List, ◌++◌, Bool, true, false, ℕ, zero, suc, ◌+◌, ◌*◌, ◌-◌, ◌≤◌, ◌<◌, length, get_or, leb}
use Rattle.std.proofs.Common.{sym, ap, ◌∙◌, arith, length-append, get_or-append-add}
use Rattle.std.proofs.Math.Decide.{dec_lt}
use Rattle.std.proofs.Math.ListN.{get_or-append}
use Rattle.notation.specs.Class.{pick}
use Rattle.language.specs.Kind.{TRUE}
use Rattle.language.specs.Tree.{Positions, unlined, Tree, leaf, node, Forest, none, more, width, size, sizes, text_of, row_list, leaf_row, rows_of, rowss}
use Rattle.language.specs.Document.{Document}
use Rattle.language.specs.Answered.{limit}
use Rattle.rooms.specs.Forest.{length_rows}
use Rattle.spans.specs.Rising.{firsts, firsts_in, Rising, rising_none, rising_more, rising_order, length_firsts}
use Rattle.spans.proofs.RisingLaws.{document_rises}
use Rattle.lined.specs.Lined.{first_byte, Ranked}

-- word 1 of row i is the first byte of the i-th of the tree's spans
leaf_first : (L : Positions) (r p x k a e : ℕ) (s : List ℕ) → first_byte (leaf_row L r p x k a e s) 0 ≡ a
leaf_first L r p x k a e s = by (leb k TRUE)
  where
    by : (y : Bool) → first_byte (pick y (row_list L k a e 0 0 p (r + 1)) (row_list L k a e x (x + length s) p (r + 1))) 0 ≡ a
    by true = refl
    by false = refl

firsts_cut : {C : Type 0} (m n : ℕ) → (m < n → C) → (n ≤ m → C) → C
firsts_cut {C} m n f g = by (dec_lt m n)
  where
    by : Dec (m < n) → C
    by (yes h) = f h
    by (no h) = g (omega arith)

mutual
  unfolding rows_of size firsts

  tree_firsts : (L : Positions) (r p x : ℕ) (t : Tree) (i : ℕ) → i < size t → first_byte (rows_of L r p x t) i ≡ get_or (firsts t) i 0
  tree_firsts L r p x (leaf k a e s) zero h = leaf_first L r p x k a e s.bytes
  tree_firsts L r p x (leaf k a e s) (suc i) h = absurd (omega arith)
  tree_firsts L r p x (node k a e c ts) zero h = refl
  tree_firsts L r p x (node k a e c ts) (suc i) h =
      let w = row_list L k a e 0 c p (r + 1 + sizes ts) in
      let v = rowss L (r + 1) r x ts in
      ap (λ (j : ℕ). get_or (w ++ v) j 0) (let z : width * suc i + 1 ≡ length w + (width * i + 1) = omega arith in z)
      ∙ (get_or-append-add w v (width * i + 1) 0 ∙ forest_firsts L (r + 1) r x ts i (omega arith))

  forest_firsts : (L : Positions) (r p x : ℕ) (ts : Forest) (i : ℕ) → i < sizes ts → first_byte (rowss L r p x ts) i ≡ get_or (firsts_in ts) i 0
  forest_firsts L r p x none i h = absurd (omega arith)
  forest_firsts L r p x (more t ts) i h =
      let u = rows_of L r p x t in
      let v = rowss L (r + size t) p (x + length (text_of t)) ts in
      let n = length_firsts t in
      let m = length_rows L r p x t in
      let j = i - size t in
      firsts_cut
      i
      (size t)
      (λ g. get_or-append u v 0 (width * i + 1) (omega arith) ∙ (tree_firsts L r p x t i g ∙ sym (get_or-append (firsts t) (firsts_in ts) 0 i (omega arith))))
      (λ g. ap (λ (y : ℕ). get_or (u ++ v) y 0) (let z : width * i + 1 ≡ length u + (width * j + 1) = omega arith in z)
      ∙ (get_or-append-add u v (width * j + 1) 0
      ∙ (forest_firsts L (r + size t) p (x + length (text_of t)) ts j (omega arith)
      ∙ (sym (get_or-append-add (firsts t) (firsts_in ts) j 0) ∙ ap (λ (y : ℕ). get_or (firsts t ++ firsts_in ts) y 0) (let z : length (firsts t) + j ≡ i = omega arith in z)))))

rising_most : {lo hi : ℕ} {ns : List ℕ} → Rising lo ns hi → (i : ℕ) → i < length ns → get_or ns i 0 < hi
rising_most rising_none i h = absurd (omega arith)
rising_most (rising_more l m x) zero h = m
rising_most (rising_more l m x) (suc i) h = rising_most x i (omega arith)

-- THE ROWS OF A DOCUMENT may be lined
pub ranked_rows : (k : ℕ) (doc : List ℕ) (t : Tree) (U : List ℕ) → Document k doc t → length doc ≤ limit → Ranked doc (rows_of unlined 0 0 0 t ++ U) (size t)
ranked_rows k doc t U d l =
    record {
      small = l;
      fits = omega (arith, length-append T U, length_rows unlined 0 0 0 t);
      inside = λ r h. omega (arith, word r h, rising_most rises r (omega (arith, length_firsts t)));
      rising = λ r h. omega (arith, word r (omega arith), word (suc r) h, rising_order rises r (suc r) (omega arith) (omega (arith, length_firsts t)));
    }
  where
    T : List ℕ
    T = rows_of unlined 0 0 0 t

    rises : Rising 0 (firsts t) (length doc)
    rises = document_rises k doc t d

    word : (r : ℕ) → r < size t → first_byte (T ++ U) r ≡ get_or (firsts t) r 0
    word r h = get_or-append T U 0 (width * r + 1) (omega (arith, length_rows unlined 0 0 0 t)) ∙ tree_firsts unlined 0 0 0 t r h
