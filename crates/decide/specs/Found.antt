-- FINDING IN THE ROOT: where an object stands in the rows, `find` answers the row of the value under the key, or that there is none. Assumes nothing.
use Rattle.std.specs.Prelude.{◌≡◌, true, List, ℕ, ◌+◌, ◌*◌, ◌≤◌, ◌<◌, length, eqb}
use Rattle.std.proofs.Math.Path.{refl}
use Rattle.std.proofs.Common.{sym, subst, ◌∙◌, lt-ltb, le-leb}
use native.Mathlib.Omega.{arith}
use Rattle.language.specs.Kind.{OBJECT, KEY}
use Rattle.language.specs.Tree.{Decoded, Tree, leaf, node, Forest, more, width, size, sizes, text_of}
use Rattle.language.specs.Lent.{words_in}
use Rattle.exact.specs.Class.{clash}
use Rattle.questions.specs.Number.{NONE}
use Rattle.questions.specs.Table.{word}
use Rattle.questions.specs.Text.{part}
use Rattle.questions.specs.Walk.{Reply, answer, refusal, paired, onward, Walk, ends, breaks, matches, strays, goes, object, Finds, refused, walked}
use Rattle.shaped.specs.Shaped.{Shaped, Pairs, pairs_none, pairs_more}
use Rattle.shaped.specs.RowsAt.{RowsAt, ForestAt, leaf_row, node_row, node_forest, first_at, rest_at, next_at}
use Rattle.sound.specs.Members.{no_scalar_key, some_size}
use Rattle.upgrade.specs.Sheet.{Under, under_here, under_later}
use Rattle.decide.specs.Texts.{both, good_row, kind_word, leaf_readable, leaf_part}

-- a value is no key, so what is under a key is the first pair's value or behind it
pub data First (s : List ℕ) (w : Tree) (d : Decoded) (v : Tree) (ts : Forest) : Type 0 where
  it : d.bytes ≡ s → v ≡ w → First s w d v ts
  behind : Under s w ts → First s w d v ts

pub first_pair : {k a e : ℕ} {s : List ℕ} {w : Tree} {d : Decoded} {v : Tree} {ts : Forest} → Shaped k v → Under s w (more (leaf KEY a e d) (more v ts)) → First s w d v ts
first_pair z under_here = it refl refl
first_pair {v = v} z (under_later x) = by v z x
  where
    by : {k : ℕ} {s : List ℕ} {w : Tree} {d : Decoded} {ts : Forest} (v : Tree) → Shaped k v → Under s w (more v ts) → First s w d v ts
    by v z under_here = absurd (no_scalar_key z)
    by v z (under_later x) = behind x

module _ (table : List ℕ) (rows : ℕ) (text : List ℕ) (fits : width * rows ≤ words_in table) where
  -- what finding tells of the values under a key
  pub data Seen (k r p stop : ℕ) (s : List ℕ) (ts : Forest) : Reply → Type 0 where
    seen : {i x : ℕ} {v : Tree} → Under s v ts → Shaped k v → RowsAt table text i p x v → r < i → i + size v ≤ stop → Seen k r p stop s ts (answer i)
    unseen : ((v : Tree) → Under s v ts → ⊥) → Seen k r p stop s ts (refusal NONE)

  module _ {k r p x a e stop : ℕ} {d : Decoded} {v : Tree} {ts : Forest} (z : Shaped k v) (h : ForestAt table text r p x (more (leaf KEY a e d) (more v ts)))
      (total : r + sizes (more (leaf KEY a e d) (more v ts)) ≡ stop) (low : stop ≤ rows) where
    key_at : RowsAt table text r p x (leaf KEY a e d)
    key_at = first_at table text h

    value_at_lem : RowsAt table text (r + 1) p (x + length d.bytes) v
    unfolding size text_of
    value_at_lem = first_at table text (rest_at table text h)

    sum : r + 1 + size v + sizes ts ≡ stop
    unfolding size
    sum = omega arith

    is_a_key : eqb (word table r 0) KEY ≡ true
    is_a_key = rw (kind_word table rows text fits r, (leaf_row table text key_at).kind_is) refl

    is_paired : paired table rows text r ≡ true
    unfolding paired
    is_paired =
        let l = some_size v in
        both (leaf_readable table rows text fits refl refl (omega (arith, sum)) key_at)
        (both is_a_key (good_row table rows text fits (r + 1) (omega (arith, sum))))

    is_part : part table text r ≡ d.bytes
    is_part = leaf_part table rows text fits refl refl (omega (arith, sum)) key_at

    next_is : word table (r + 1) 6 ≡ r + 1 + size v
    unfolding word
    next_is = next_at table text v value_at_lem

    is_onward : onward table stop (r + 1) ≡ true
    unfolding onward
    is_onward = let l = some_size v in rw next_is (both (lt-ltb (r + 1) (r + 1 + size v) (omega arith)) (le-leb (r + 1 + size v) stop (omega (arith, sum))))

    rest_stands : ForestAt table text (r + 1 + size v) p (x + length d.bytes + length (text_of v)) ts
    unfolding size text_of
    rest_stands = rest_at table text (rest_at table text h)

    -- the pair's own key, or a later one's
    seen_here : (s : List ℕ) → part table text r ≡ s → Seen k r p stop s (more (leaf KEY a e d) (more v ts)) (answer (r + 1))
    seen_here s g = seen (subst (λ (b : List ℕ). Under b v (more (leaf KEY a e d) (more v ts))) (sym is_part ∙ g) under_here) z value_at_lem (omega arith) (omega (arith, sum))

    seen_later : (s : List ℕ) (reply : Reply) → (part table text r ≡ s → ⊥) → Seen k (r + 1 + size v) p stop s ts reply → Seen k r p stop s (more (leaf KEY a e d) (more v ts)) reply
    seen_later s _ g (seen u q w l m) = seen (under_later (under_later u)) q w (omega arith) m
    seen_later s _ g (unseen f) = unseen (λ w u. by w (first_pair z u))
      where
        by : (w : Tree) → First s w d v ts → ⊥
        by w (it i j) = g (is_part ∙ i)
        by w (behind i) = f w i

  walk_seen : {k n r p x stop : ℕ} {s : List ℕ} {ts : Forest} {reply : Reply} → Pairs k n ts → ForestAt table text r p x ts → r + sizes ts ≡ stop → stop ≤ rows
      → Walk table rows text s stop r reply → Seen k r p stop s ts reply
  unfolding size
  walk_seen pairs_none h e l (ends i) = unseen (λ v u. elim u [ ])
  walk_seen pairs_none h e l (breaks i j) = absurd (omega arith)
  walk_seen pairs_none h e l (matches i j g) = absurd (omega arith)
  walk_seen pairs_none h e l (strays i j g o) = absurd (omega arith)
  walk_seen pairs_none h e l (goes i j g o w) = absurd (omega arith)
  walk_seen (pairs_more y z zs) h e l (ends i) = absurd (omega arith)
  walk_seen (pairs_more y z zs) h e l (breaks i j) = absurd (clash (is_paired z h e l) j)
  walk_seen {s = s} (pairs_more y z zs) h e l (matches i j g) = seen_here z h e l s g
  walk_seen (pairs_more y z zs) h e l (strays i j g o) = absurd (clash (is_onward z h e l) o)
  walk_seen {stop = stop} {s = s} {reply = reply} (pairs_more y z zs) h e l (goes i j g o w) =
      seen_later z h e l s reply g
      (walk_seen zs (rest_stands z h e l) (sum z h e l) l (subst (λ (q : ℕ). Walk table rows text s stop q reply) (next_is z h e l) w))

  -- the row of an object
  module _ {r p x a e n : ℕ} {ts : Forest} (h : RowsAt table text r p x (node OBJECT a e n ts)) (l : r < rows) where
    is_an_object : object table rows r ≡ true
    unfolding object
    is_an_object = both (good_row table rows text fits r l) (rw (kind_word table rows text fits r, (node_row table text h).kind_is) refl)

    last_is : word table r 6 ≡ r + 1 + sizes ts
    unfolding word
    last_is = (node_row table text h).next_is

  -- FINDING in an object
  pub find_seen : {k n r p x a e : ℕ} {s : List ℕ} {ts : Forest} {reply : Reply} → Pairs k n ts → RowsAt table text r p x (node OBJECT a e n ts) → r + size (node OBJECT a e n ts) ≤ rows
      → Finds table rows text s r reply → Seen k (r + 1) r (r + 1 + sizes ts) s ts reply
  unfolding size
  find_seen zs h l (refused o) = absurd (clash (is_an_object h (omega arith)) o)
  find_seen {r = r} {s = s} {reply = reply} zs h l (walked o w) =
      walk_seen zs (node_forest table text h) refl (omega arith) (subst (λ (q : ℕ). Walk table rows text s q (r + 1) reply) (last_is h (omega arith)) w)
