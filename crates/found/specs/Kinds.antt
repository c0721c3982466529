-- THE ROWS OF KIND 9 in the table of a value's tree are those of its objects, and each of them has its pairs. Assumes nothing.
use Rattle.std.specs.Prelude.{◌≡◌, refl, List, [], Bool, false, ◌↔◌, ℕ, ◌+◌, ◌*◌, ◌<◌, length, get_or, eqb, leb, ltb}
use Rattle.std.proofs.Common.{sym, ◌∙◌, inl, inr, arith}
use Rattle.std.proofs.Math.Bool.{true}
use borrow.Author.Tests.{eqb-true, ltb-true}
use Rattle.notation.specs.Class.{pick}
use Rattle.language.specs.Kind.{TRUE, OBJECT}
use Rattle.language.specs.Tree.{width, Tree, leaf, node, Forest, size, row_list}
use Rattle.language.specs.Lent.{words_in}
use Rattle.questions.specs.Both.{both_left, both_right}
use Rattle.questions.specs.Table.{word, good, kind}
use Rattle.questions.specs.Walk.{object}
use Rattle.spans.specs.Formed as F
use Rattle.spans.specs.Formed.{Formed, formed_word, formed_text, formed_array, formed_object, is_a_key, kind_of}
use Rattle.spans.specs.Placed.{Among, among_first, among_later, child, Within, itself, below}
use Rattle.spans.specs.Kinds.{Either, within_either}
use Rattle.found.specs.Objects.{RowOf, own, within, RowAmong, in_first, in_further, Pair, pair, Pairs, no_pair, one_pair, ObjectAt, object_at}
use Rattle.found.specs.Rows.{Placed, leaf_word, node_word}
use Rattle.found.specs.Walks.{object_row}
use Rattle.found.specs.Find.{Filled, placed, enough}

-- row r of the tree t is an object's, with its pairs
pub record Object (t : Tree) (r : ℕ) : Type 0 where
  pub pairs : List Pair
  pub is : ObjectAt t r pairs

-- a part of a tree, by its row, is a part of it
record Under (u : Tree) (ts : Forest) : Type 0 where
  tree : Tree
  among : Among tree ts
  inner : Within u tree

mutual
  pub row_within : {r b : ℕ} {u t : Tree} → RowOf r u b t → Within u t
  row_within own = itself
  row_within (within x) = let z = among_within x in below (child z.among) z.inner

  among_within : {r b : ℕ} {u : Tree} {ts : Forest} → RowAmong r u b ts → Under u ts
  among_within (in_first {t = t} x) = record { tree = t; among = among_first; inner = row_within x }
  among_within (in_further x) = let z = among_within x in record { tree = z.tree; among = among_later z.among; inner = z.inner }

-- an object's children are pairs
pub record Listed (r : ℕ) (ts : Forest) : Type 0 where
  pub pairs : List Pair
  pub are : Pairs r ts pairs

pairs_listed : {c : ℕ} {ts : Forest} → F.Pairs c ts → (r : ℕ) → Listed r ts
pairs_listed F.no_pair r = record { pairs = []; are = no_pair }
pairs_listed (F.pair {v = v} is_a_key y z) r = let l = pairs_listed z (r + 1 + size v) in record { pairs = _; are = one_pair l.are }

-- a value or key of kind 9 is an object
pub of_kind : {t : Tree} {r : ℕ} (u : Tree) → RowOf r u 0 t → Either u → kind_of u ≡ OBJECT → Object t r
of_kind _ x (inl (formed_word h k l)) e = absurd (omega arith)
of_kind _ x (inl (formed_text h k)) e = absurd (omega arith)
of_kind _ x (inl (formed_array y)) e = absurd (omega arith)
of_kind {r = r} _ x (inl (formed_object y)) e = let l = pairs_listed y (r + 1) in record { pairs = l.pairs; is = object_at x l.are }
of_kind _ x (inr is_a_key) e = absurd (omega arith)

module _ {t : Tree} {n : ℕ} {table room : List ℕ} (h : Filled t n table room) where
  pub kind_word : (r : ℕ) (u : Tree) → Placed table room n r u → word table r 0 ≡ kind_of u
  kind_word r (leaf k a e s) p = leaf_word table room n r k a e s p 0 (omega arith) ∙ by (leb k TRUE)
    where
      by : (y : Bool) → get_or (pick y (row_list p.lines k a e 0 0 p.parent (r + 1)) (row_list p.lines k a e p.from (p.from + length s.bytes) p.parent (r + 1))) 0 0 ≡ k
      by true = refl
      by false = refl
  kind_word r (node k a e c ts) p = node_word table room n r k a e c ts p 0 (omega arith)
