-- A TREE'S ROWS, LINED, are its rows with lines and columns (`lined_rows`). Assumes nothing.
use Rattle.std.specs.Prelude.{◌≡◌, Bool, true, false, ℕ, suc, ◌+◌, length, leb}
use Rattle.std.proofs.Math.Path.{refl, ap}
use Rattle.std.proofs.Common.{◌∙◌, arith}
use mathlib.Core.List.{List, ◌++◌}
use Rattle.notation.specs.Class.{pick}
use Rattle.language.specs.Kind.{TRUE}
use Rattle.language.specs.Tree.{Positions, unlined, Tree, leaf, node, Forest, none, more, size, sizes, text_of, row_list, leaf_row, rows_of, rowss}
use Rattle.rooms.specs.Forest.{length_rows}
use Rattle.lined.specs.Lined.{lined, lined_append}

module _ (L : Positions) where
  lined_row : (k a e s t p n : ℕ) → lined L 1 (row_list unlined k a e s t p n) ≡ row_list L k a e s t p n
  unfolding lined
  lined_row k a e s t p n = refl

  lined_leaf : (r p x k a e : ℕ) (s : List ℕ) → lined L 1 (leaf_row unlined r p x k a e s) ≡ leaf_row L r p x k a e s
  lined_leaf r p x k a e s = by (leb k TRUE)
    where
      by : (y : Bool) → lined L 1 (pick y (row_list unlined k a e 0 0 p (r + 1)) (row_list unlined k a e x (x + length s) p (r + 1)))
          ≡ pick y (row_list L k a e 0 0 p (r + 1)) (row_list L k a e x (x + length s) p (r + 1))
      by true = lined_row k a e 0 0 p (r + 1)
      by false = lined_row k a e x (x + length s) p (r + 1)

  mutual
    unfolding rows_of size lined

    lined_tree : (r p x : ℕ) (t : Tree) → lined L (size t) (rows_of unlined r p x t) ≡ rows_of L r p x t
    lined_tree r p x (leaf k a e s) = lined_leaf r p x k a e s.bytes
    lined_tree r p x (node k a e c ts) =
        let w = row_list unlined k a e 0 c p (r + 1 + sizes ts) in
        lined_append L w (rowss unlined (r + 1) r x ts) 1 (sizes ts) (suc (sizes ts)) refl (omega arith)
        ∙ (ap (λ (s : List ℕ). s ++ lined L (sizes ts) (rowss unlined (r + 1) r x ts)) (lined_row k a e 0 c p (r + 1 + sizes ts))
        ∙ ap (λ (s : List ℕ). row_list L k a e 0 c p (r + 1 + sizes ts) ++ s) (lined_forest (r + 1) r x ts))

    lined_forest : (r p x : ℕ) (ts : Forest) → lined L (sizes ts) (rowss unlined r p x ts) ≡ rowss L r p x ts
    lined_forest r p x none = refl
    lined_forest r p x (more t ts) =
        let u = rows_of unlined r p x t in
        let v = rowss unlined (r + size t) p (x + length (text_of t)) ts in
        lined_append L u v (size t) (sizes ts) (size t + sizes ts) (length_rows unlined r p x t) refl
        ∙ (ap (λ (s : List ℕ). s ++ lined L (sizes ts) v) (lined_tree r p x t) ∙ ap (λ (s : List ℕ). rows_of L r p x t ++ s) (lined_forest (r + size t) p (x + length (text_of t)) ts))

  -- THE WALK FILLS IN what the rows lack
  pub lined_rows : (t : Tree) (U : List ℕ) → lined L (size t) (rows_of unlined 0 0 0 t ++ U) ≡ rows_of L 0 0 0 t ++ U
  unfolding lined
  lined_rows t U =
      lined_append L (rows_of unlined 0 0 0 t) U (size t) 0 (size t) (length_rows unlined 0 0 0 t) (omega arith) ∙ ap (λ (s : List ℕ). s ++ U) (lined_tree 0 0 0 t)
