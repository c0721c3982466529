-- ROWS OF A TREE in a table (`At`), and of trees one behind another (`Along`): values of a document and keys. Assumes nothing.
use Rattle.std.specs.Prelude.{◌≡◌, List, ℕ, ◌+◌, ◌*◌, ◌≤◌, ◌<◌, length, get_or}
use Rattle.std.proofs.Common.{ap, ◌∙◌, arith}
use Rattle.language.specs.Kind.{KEY}
use Rattle.language.specs.Tree.{Tree, leaf, node, Forest, none, more, Decoded, width, size, sizes}
use Rattle.spans.specs.Formed.{kind_of}
use Rattle.shaped.specs.RowsAt.{RowsAt, ForestAt, node_forest, kind_at_lem, next_at}
use Rattle.shaped.specs.Shaped.{Scripted, Scalar, is_null, is_false, is_true, is_an_integer, is_float, is_string, is_bytes, Shaped, Elements, elements_none, elements_more, Pairs, pairs_none, pairs_more}

-- A VALUE OF A DOCUMENT, OR A KEY; such trees one behind another
pub data Kept : Tree → Type 0 where
  kept_key : {a e : ℕ} {s : Decoded} → Scripted s.bytes → Kept (leaf KEY a e s)
  kept_value : {k : ℕ} {t : Tree} → Shaped k t → Kept t

pub data Kepts : Forest → Type 0 where
  kepts_none : Kepts none
  kepts_more : {t : Tree} {ts : Forest} → Kept t → Kepts ts → Kepts (more t ts)

pub elements_kept : {k n : ℕ} {ts : Forest} → Elements k n ts → Kepts ts
elements_kept elements_none = kepts_none
elements_kept (elements_more x xs) = kepts_more (kept_value x) (elements_kept xs)

pub pairs_kept : {k n : ℕ} {ts : Forest} → Pairs k n ts → Kepts ts
pairs_kept pairs_none = kepts_none
pairs_kept (pairs_more y x xs) = kepts_more (kept_key y) (kepts_more (kept_value x) (pairs_kept xs))

-- a scalar is no container
pub scalar_low : {kind : ℕ} {s : List ℕ} → Scalar kind s → kind ≤ 7
scalar_low is_null = omega arith
scalar_low is_false = omega arith
scalar_low is_true = omega arith
scalar_low (is_an_integer x) = omega arith
scalar_low (is_float x) = omega arith
scalar_low (is_string x) = omega arith
scalar_low (is_bytes x) = omega arith

-- every tree has a row
pub size_some : (t : Tree) → 0 < size t
unfolding size
size_some (leaf k a e s) = omega arith
size_some (node k a e c ts) = omega arith

pub sizes_some : (t : Tree) (ts : Forest) → 0 < sizes (more t ts)
unfolding sizes
sizes_some t ts = omega (arith, size_some t)

module _ (table text : List ℕ) where
  -- THE ROWS OF A TREE STAND in the table from row r on; those of trees from row r up to `stop`
  pub record At (r : ℕ) (t : Tree) : Type 0 where
    pub parent : ℕ
    pub start : ℕ
    pub rows : RowsAt table text r parent start t
    pub fits : width * (r + size t) ≤ length table

  pub record Along (r stop : ℕ) (ts : Forest) : Type 0 where
    pub parent : ℕ
    pub start : ℕ
    pub rows : ForestAt table text r parent start ts
    pub ends : r + sizes ts ≡ stop
    pub fits : width * stop ≤ length table

  -- what the words of a row say
  module _ {r : ℕ} {t : Tree} (h : At r t) where
    pub word_in : (i : ℕ) → i ≤ 8 → width * r + i < length table
    word_in i l = omega (arith, h.fits, size_some t)

    pub kind_word : {n : ℕ} → n ≡ get_or table (width * r + 0) 0 → n ≡ kind_of t
    kind_word e = e ∙ (ap (λ i. get_or table i 0) (let z : width * r + 0 ≡ width * r = omega arith in z) ∙ kind_at_lem table text t h.rows)

    pub next_word : {n : ℕ} → n ≡ get_or table (width * r + 6) 0 → n ≡ r + size t
    next_word e = e ∙ next_at table text t h.rows

  -- A CONTAINER: its children's rows
  pub node_along : {r k a e c : ℕ} {ts : Forest} → At r (node k a e c ts) → Along (r + 1) (get_or table (width * r + 6) 0) ts
  unfolding size
  node_along {r} {k} {a} {e} {c} {ts} h =
      let n = next_at table text (node k a e c ts) h.rows in
      record { parent = r; start = h.start; rows = node_forest table text h.rows; ends = omega arith; fits = omega (arith, h.fits) }
