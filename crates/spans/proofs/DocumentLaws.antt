-- EVERY DOCUMENT'S TREE: its rows, and its text with its escapes, are fewer than the document's bytes, its keys a fourth of them at most, its spans and its kinds are in their place. Assumes nothing.
use Rattle.std.specs.Prelude.{◌≡◌, true, ℕ, zero, suc, ◌+◌, ◌*◌, ◌≤◌, ◌<◌}
use mathlib.Core.List.{List}
use Rattle.std.proofs.Common.{inl, arith}
use Rattle.std.proofs.Math.ListN.{length}
use Rattle.notation.specs.Lang.{◌>>◌, Star, End, end}
use Rattle.language.specs.Tree.{Decoded, Tree, leaf, node, Forest, first, after, size, text_of, escapes_of}
use Rattle.language.specs.Characters.{Feed, Comment}
use Rattle.language.specs.Document.{RootLine, Root, Whole, Document}
use Rattle.spans.specs.Onward.{onward_length}
use Rattle.spans.specs.Every.{Every, ret_every, byte_every, byte_then, bind_every, alt_every}
use Rattle.spans.specs.Placed.{Placed, Child, Siblings, Within, Inside, span_some, child_inside, siblings_ordered, within_placed, within_inside}
use Rattle.spans.specs.Formed.{Formed, LeafKeys, formed_leaf_keys}
use Rattle.spans.specs.Keys.{keys_in}
use Rattle.spans.specs.Kinds.{Contains, Tells, within_either, either_contains, either_tells}
use Rattle.spans.specs.Lies.{LiesIn}
use Rattle.spans.proofs.LiesLaws.{lies_from, lies_to, lies_line}
use Rattle.spans.specs.Texts.{Goes, star_goes, comment_goes}
use Rattle.spans.proofs.InlineLaws.{value_lies}
use Rattle.spans.specs.Blocks.{OnLines, Roomy}
use Rattle.spans.proofs.BlocksLaws.{on_lines, object_lies, array_lies, open_lies, nested_lies, item_lies}
use Rattle.spans.specs.Document.{comments_go}

root_line_lies : (k : ℕ) → Roomy (RootLine k)
root_line_lies k at = bind_every (value_lies true k at) (λ v m x. byte_then (λ b. ret_every (lies_line (omega arith) x)))

root_lies : (k : ℕ) → OnLines (Root k)
root_lies zero at = on_lines (λ b. alt_every (root_line_lies zero b) (open_lies 0 b)) at
root_lies (suc k) at =
    alt_every
    (on_lines (λ b. alt_every (root_line_lies (suc k) b) (open_lies 0 b)) at)
    (alt_every (on_lines (array_lies (item_lies k 2) 0) at) (object_lies k 0 (nested_lies k 1) at))

whole_lies : (k : ℕ) → OnLines (Whole k)
whole_lies k at =
    bind_every
    (comments_go at)
    (λ cs m h. bind_every
    (root_lies k m)
    (λ v e x. bind_every (star_goes (λ a. byte_every (λ b. omega arith)) e) (λ fs at' l. ret_every (lies_from h (lies_to l x)))))

module _ (k : ℕ) (doc : List ℕ) (t : Tree) (d : Document k doc t) where
  document_lies : LiesIn Formed 1 1 0 t (length doc)
  unfolding Document
  document_lies = by d.others ((whole_lies k 0).has d.first) (onward_length ((whole_lies k 0).moves d.first))
    where
      by : {v : Tree} {m : ℕ} {s : List ℕ} → End v m s t → LiesIn Formed 1 1 0 v m → m + length s ≡ 0 + length doc → LiesIn Formed 1 1 0 t (length doc)
      by end x h = lies_to (omega arith) x

  -- "Rows and text are each fewer than the document's bytes."
  pub few_rows : size t < length doc
  few_rows = let h = document_lies.rows in omega arith

  pub few_text : length (text_of t) < length doc
  few_text = let h = document_lies.text in omega arith

  -- so are text and escapes together; and there are no more escapes than bytes
  pub text_and_escapes : length (text_of t) + escapes_of t < length doc
  text_and_escapes = let h = document_lies.text in omega arith

  pub few_escapes : escapes_of t ≤ length doc
  few_escapes = let h = text_and_escapes in omega arith

  -- four bytes or more belong to each key
  pub few_keys : 4 * keys_in t ≤ length doc
  few_keys = let h = document_lies.keys in omega arith

  -- its spans are in their place; the next four say so in plain words
  pub placed : Placed t
  placed = document_lies.placed

  -- "Each child's span lies inside its parent's": p is any tree in t, u a child of p
  pub inside : {p u : Tree} → Within p t → Child u p → Inside p u
  inside w c = child_inside (within_placed placed w) c

  -- "siblings' spans are disjoint and in order": p is any tree in t, v a child of p behind its child u
  pub in_order : {p u v : Tree} → Within p t → Siblings u v p → after u ≤ first v
  in_order w s = siblings_ordered (within_placed placed w) s

  -- no span is empty, and every one lies in the document
  pub some_span : {u : Tree} → Within u t → first u < after u
  some_span w = span_some (within_placed placed w)

  pub in_document : {u : Tree} → Within u t → after u ≤ length doc
  in_document w = omega (arith, document_lies.ends, (within_inside placed w).ends)

  -- the whole tree is that of a value, by its kinds, its counts and the texts that are empty
  pub document_formed : Formed t
  document_formed = document_lies.formed

  -- at any depth: a container is an array of values or an object of pairs of a key and a value, with their number for its count
  pub containers : {q a e c : ℕ} {ts : Forest} → Within (node q a e c ts) t → Contains c ts q
  containers w = either_contains (within_either (inl document_formed) w)

  -- and a leaf is of a kind from 1 to 7, with no text up to 3, or a key
  pub leaves : {q a e : ℕ} {s : Decoded} → Within (leaf q a e s) t → Tells s q
  leaves w = either_tells (within_either (inl document_formed) w)

  -- no container is a key
  pub document_leaf_keys : LeafKeys t
  document_leaf_keys = formed_leaf_keys document_formed
