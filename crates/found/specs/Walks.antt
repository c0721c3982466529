-- THE WALK OVER AN OBJECT'S PAIRS, on a table that holds the rows of a tree, answers what looking for the key in the pairs answers. Assumes nothing.
use Rattle.std.specs.Prelude.{◌≡◌, List, Bool, true, ◌&&◌, ℕ, ◌+◌, ◌-◌, ◌*◌, ◌≤◌, ◌<◌}
use Rattle.std.proofs.Math.Path.{refl}
use Rattle.std.proofs.Common.{sym, subst, ◌∙◌, lt-ltb, le-leb}
use native.Mathlib.Omega.{arith}
use Rattle.std.proofs.Math.ListN.{length}
use Rattle.language.specs.Kind.{OBJECT, KEY}
use Rattle.language.specs.Tree.{Decoded, Tree, leaf, node, Forest, more, width, size, sizes, text_of}
use Rattle.language.specs.Lent.{words_in, bytes_in}
use Rattle.questions.specs.Table.{word, good, readable}
use Rattle.questions.specs.Text.{part}
use Rattle.questions.specs.Walk.{Reply, paired, onward, Walk, ends, matches, goes, object, Finds, walked}
use Rattle.found.specs.Objects.{Pair, Pairs, no_pair, one_pair}
use Rattle.found.specs.Stands.{stands_fits, stands_part}
use Rattle.found.specs.Rows.{Placed, PlacedAll, children, head_placed, tail_placed, leaf_word, node_word, next_word, size_some}
use Rattle.found.specs.Looks.{Looks, looks_none, looks_here, looks_later}

both : {a b : Bool} → a ≡ true → b ≡ true → (a && b) ≡ true
both h k = rw (h, k)

module _ (table room : List ℕ) (n : ℕ) (enough : width * n ≤ words_in table) where
  good_row : (r : ℕ) → r < n → good table n r ≡ true
  unfolding good
  good_row r h = both (lt-ltb r n h) (le-leb (width * (r + 1)) (words_in table) (omega arith))

  module _ (r a e : ℕ) (s : Decoded) (p : Placed table room n r (leaf KEY a e s)) where
    -- a key's row
    key_kind : word table r 0 ≡ KEY
    key_kind = leaf_word table room n r KEY a e s p 0 (omega arith)

    key_start : word table r 3 ≡ p.from
    key_start = leaf_word table room n r KEY a e s p 3 (omega arith)

    key_end : word table r 4 ≡ p.from + length s.bytes
    key_end = leaf_word table room n r KEY a e s p 4 (omega arith)

    key_paired : r + 1 < n → paired table n room r ≡ true
    unfolding paired readable text_of
    key_paired h =
        let f : p.from + length s.bytes ≤ bytes_in room = p.counts in
        rw (key_kind, key_start, key_end)
        (both (both (good_row r (omega arith)) (both refl (both (le-leb p.from (p.from + length s.bytes) (omega arith)) (le-leb (p.from + length s.bytes) (bytes_in room) f)))) (both refl (good_row (r + 1) h)))

    key_part : part table room r ≡ s.bytes
    unfolding part text_of
    key_part =
        let z : p.from + length s.bytes - p.from ≡ length s.bytes = omega arith in
        rw (key_start, key_end, z) (stands_part p.text)

  -- the row of a value leads on behind it
  leads : (r stop : ℕ) (t : Tree) → Placed table room n r t → r + size t ≤ stop → onward table stop r ≡ true
  unfolding onward
  leads r stop t p h =
      let z = size_some t in
      rw (next_word table room n r t p) (both (lt-ltb r (r + size t) (omega arith)) (le-leb (r + size t) stop h))

  walks : {r stop : ℕ} {s : List ℕ} {ts : Forest} {fs : List Pair} {reply : Reply}
      → Pairs r ts fs → PlacedAll table room n r ts → stop ≡ r + sizes ts → Looks s fs reply → Walk table n room s stop r reply
  unfolding size
  walks (no_pair {r = r}) p e looks_none = ends {at = r} (omega arith)
  walks (one_pair {r = r} {a = a} {e = f} {s = k} {v = v} {ts = ts} x) p e (looks_here q) =
      let l = p.last in
      let z = size_some v in
      let h = head_placed table room n r (leaf KEY a f k) (more v ts) p in
      matches {at = r} (omega arith) (key_paired r a f k h (omega arith)) (key_part r a f k h ∙ q)
  walks {stop = stop} {s = s} {reply = reply} (one_pair {r = r} {a = a} {e = f} {s = k} {v = v} {ts = ts} x) p e (looks_later m q) =
      let l = p.last in
      let z = size_some v in
      let h = head_placed table room n r (leaf KEY a f k) (more v ts) p in
      let y = tail_placed table room n r (leaf KEY a f k) (more v ts) p in
      let w = head_placed table room n (r + 1) v ts y in
      let u = tail_placed table room n (r + 1) v ts y in
      goes {at = r} (omega arith) (key_paired r a f k h (omega arith)) (λ g. m (sym (key_part r a f k h) ∙ g)) (leads (r + 1) stop v w (omega arith))
      (subst (λ (j : ℕ). Walk table n room s stop j reply) (sym (next_word table room n (r + 1) v w)) (walks x u (omega arith) q))

  -- the row of an object
  pub object_row : (r a e c : ℕ) (ts : Forest) → Placed table room n r (node OBJECT a e c ts) → object table n r ≡ true
  unfolding object size
  object_row r a e c ts p =
      let l = p.last in
      both (good_row r (omega arith)) (rw (node_word table room n r OBJECT a e c ts p 0 (omega arith)) refl)

  -- FINDING in it
  pub finds : {r a e c : ℕ} {s : List ℕ} {ts : Forest} {fs : List Pair} {reply : Reply}
      → Pairs (r + 1) ts fs → Placed table room n r (node OBJECT a e c ts) → Looks s fs reply → Finds table n room s r reply
  finds {r} {a} {e} {c} {s} {ts} x p q =
      walked
      (object_row r a e c ts p)
      (walks x (children table room n r OBJECT a e c ts p) (node_word table room n r OBJECT a e c ts p 6 (omega arith)) q)
