-- THE ROWS OF KIND 9 in the table of a value's tree are those of its objects, and each of them has its pairs. Assumes nothing.
use Rattle.std.specs.Prelude.{◌≡◌, refl, List, [], Bool, false, ◌↔◌, ℕ, ◌+◌, ◌*◌, ◌<◌, length, get_or, eqb, leb, ltb}
use Rattle.std.proofs.Common.{sym, ◌∙◌, inl, inr, arith}
use Rattle.std.proofs.Math.Bool.{true}
use borrow.Author.Tests.{eqb-true, ltb-true}
use Rattle.notation.specs.Class.{pick}
use Rattle.language.specs.Kind.{TRUE, OBJECT}
use Rattle.language.specs.Tree.{width, Tree, leaf, node, Forest, size, row_list}
use Rattle.language.specs.Lent.{words_in}
use Rattle.questions.specs.Both.{both_left, both_right}
use Rattle.questions.specs.Table.{word, good, kind}
use Rattle.questions.specs.Walk.{object}
use Rattle.spans.specs.Formed as F
use Rattle.spans.specs.Formed.{Formed, formed_word, formed_text, formed_array, formed_object, is_a_key, kind_of}
use Rattle.spans.specs.Placed.{Among, among_first, among_later, child, Within, itself, below}
use Rattle.spans.specs.Kinds.{Either, within_either}
use Rattle.found.specs.Objects.{RowOf, own, within, RowAmong, in_first, in_further, Pair, pair, Pairs, no_pair, one_pair, ObjectAt, object_at}
use Rattle.found.specs.Rows.{Placed, leaf_word, node_word}
use Rattle.found.proofs.RowsLaws.{row_placed}
use Rattle.found.proofs.RootedLaws.{part_of}
use Rattle.found.specs.Walks.{object_row}
use Rattle.found.specs.Find.{Filled, placed, enough}
use Rattle.found.specs.Kinds.{Object, kind_word, of_kind, row_within}

module _ {t : Tree} {n : ℕ} {table room : List ℕ} (h : Filled t n table room) where
  kind_object : Formed t → (r : ℕ) → object table n r ≡ true → Object t r
  unfolding object good
  kind_object f r e =
      let g : good table n r ≡ true = both_left (good table n r) (eqb (kind table r) OBJECT) e in
      let l : r < n = ltb-true r n (both_left (ltb r n) (leb (width * (r + 1)) (words_in table)) g) in
      let k : kind table r ≡ OBJECT = eqb-true (kind table r) OBJECT (both_right (good table n r) (eqb (kind table r) OBJECT) e) in
      let z = part_of r 0 t (record { least = omega arith; most = omega (arith, h.count) }) in
      let p = row_placed table room n z.row (placed h) in
      of_kind z.tree z.row (within_either (inl f) (row_within z.row)) (sym ((kind_word h) r z.tree p) ∙ k)

  object_kind : {r : ℕ} {fs : List Pair} → ObjectAt t r fs → object table n r ≡ true
  object_kind {r} (object_at {a = a} {e = e} {c = c} {ts = ts} x y) = object_row table room n (enough h) r a e c ts (row_placed table room n x (placed h))

  -- THE OBJECTS by the table are those of the tree
  pub objects : Formed t → (r : ℕ) → (object table n r ≡ true) ↔ Object t r
  objects f r = (kind_object f r, λ o. object_kind o.is)
