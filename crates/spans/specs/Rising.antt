-- ROWS STAND IN THE ORDER OF THEIR FIRST BYTES: each row of a document begins where the row before it does or later, and before the document's end (01, What the reader
-- takes and gives). Assumes nothing.
use Rattle.std.specs.Prelude.{◌≡◌, refl, List, [], ◌∷◌, ◌++◌, ℕ, zero, suc, ◌+◌, ◌-◌, ◌≤◌, ◌<◌, length, get_or}
use Rattle.std.proofs.Common.{sym, ap, subst, ◌∙◌, arith, length-append, get_or-append-add}
use Rattle.std.proofs.Math.Decide.{dec_le}
use Rattle.std.proofs.Math.ListN.{get_or-append}
use Rattle.language.specs.Tree.{Tree, leaf, node, Forest, none, more, first, after, size, sizes}
use Rattle.language.specs.Document.{Document}
use Rattle.spans.specs.Placed.{Placed, Along, placed_leaf, placed_node, along_none, along_more, along_le, span_some, Among, among_first, among_later, child, Within, itself, below}

-- the first bytes of a tree's rows, in row order
unfoldable mutual
  pub firsts : Tree → List ℕ
  firsts (leaf k a e s) = a ∷ []
  firsts (node k a e c ts) = a ∷ firsts_in ts

  pub firsts_in : Forest → List ℕ
  firsts_in none = []
  firsts_in (more t ts) = firsts t ++ firsts_in ts

-- one for each row
mutual
  unfolding firsts size

  pub length_firsts : (t : Tree) → length (firsts t) ≡ size t
  length_firsts (leaf k a e s) = refl
  length_firsts (node k a e c ts) = let h = length_firsts_in ts in omega arith

  pub length_firsts_in : (ts : Forest) → length (firsts_in ts) ≡ sizes ts
  length_firsts_in none = refl
  length_firsts_in (more t ts) = omega (arith, length_firsts t, length_firsts_in ts, length-append (firsts t) (firsts_in ts))

-- what holds of each number of two lists holds of each of the one behind the other
in_either : (P : ℕ → Type 0) (ms ns : List ℕ) → ((i : ℕ) → i < length ms → P (get_or ms i 0)) → ((i : ℕ) → i < length ns → P (get_or ns i 0)) → (i : ℕ) → i < length ms + length ns → P (get_or (ms ++ ns) i 0)
in_either P ms ns f g i l = by (dec_le (length ms) i)
  where
    by : Dec (length ms ≤ i) → P (get_or (ms ++ ns) i 0)
    by (yes h) = let j = i - length ms in subst P (sym (get_or-append-add ms ns j 0) ∙ ap (λ (y : ℕ). get_or (ms ++ ns) y 0) (omega arith)) (g j (omega arith))
    by (no h) = subst P (sym (get_or-append ms ns 0 i (omega arith))) (f i (omega arith))

-- each of them is the first byte of a tree that stands there
mutual
  unfolding firsts size

  pub firsts_within : (P : ℕ → Type 0) (t : Tree) → ((u : Tree) → Within u t → P (first u)) → (i : ℕ) → i < size t → P (get_or (firsts t) i 0)
  firsts_within P (leaf k a e s) f zero l = f (leaf k a e s) itself
  firsts_within P (leaf k a e s) f (suc i) l = absurd (omega arith)
  firsts_within P (node k a e c ts) f zero l = f (node k a e c ts) itself
  firsts_within P (node k a e c ts) f (suc i) l = firsts_among P ts (λ t m u w. f u (below (child m) w)) i (omega arith)

  firsts_among : (P : ℕ → Type 0) (ts : Forest) → ((t : Tree) → Among t ts → (u : Tree) → Within u t → P (first u)) → (i : ℕ) → i < sizes ts → P (get_or (firsts_in ts) i 0)
  firsts_among P none f i l = absurd (omega arith)
  firsts_among P (more t ts) f i l =
      let n = length_firsts t in
      let m = length_firsts_in ts in
      in_either P (firsts t) (firsts_in ts) (λ j g. firsts_within P t (f t among_first) j (omega arith)) (λ j g. firsts_among P ts (λ v w. f v (among_later w)) j (omega arith)) i (omega arith)

-- each number is at least the one before it, the first at least lo, and all are below hi
pub data Rising : ℕ → List ℕ → ℕ → Type 0 where
  rising_none : {lo hi : ℕ} → Rising lo [] hi
  rising_more : {lo n hi : ℕ} {ns : List ℕ} → lo ≤ n → n < hi → Rising n ns hi → Rising lo (n ∷ ns) hi

pub rising_from : {a b e : ℕ} {ns : List ℕ} → a ≤ b → Rising b ns e → Rising a ns e
rising_from h rising_none = rising_none
rising_from {a} h (rising_more {n = n} l m x) = rising_more {lo = a} {n = n} (omega arith) m x

pub rising_to : {a e f : ℕ} {ns : List ℕ} → e ≤ f → Rising a ns e → Rising a ns f
rising_to h rising_none = rising_none
rising_to {f = f} h (rising_more {n = n} l m x) = rising_more {n = n} {hi = f} l (omega arith) (rising_to h x)

-- numbers below b, and behind them numbers from b on
pub rising_append : {a b e : ℕ} {ms ns : List ℕ} → a ≤ b → b ≤ e → Rising a ms b → Rising b ns e → Rising a (ms ++ ns) e
rising_append h k rising_none y = rising_from h y
rising_append {b = b} {e = e} h k (rising_more {n = n} l m x) y = rising_more {n = n} {hi = e} l (omega arith) (rising_append {a = n} {b = b} (omega arith) k x y)

-- in plain words: what stands at i is at least lo, and at most what stands behind it
pub rising_least : {lo hi : ℕ} {ns : List ℕ} → Rising lo ns hi → (i : ℕ) → i < length ns → lo ≤ get_or ns i 0
rising_least rising_none i h = absurd (omega arith)
rising_least (rising_more l m x) zero h = l
rising_least (rising_more l m x) (suc i) h = let y = rising_least x i (omega arith) in omega arith

pub rising_order : {lo hi : ℕ} {ns : List ℕ} → Rising lo ns hi → (i j : ℕ) → i < j → j < length ns → get_or ns i 0 ≤ get_or ns j 0
rising_order rising_none i j k h = absurd (omega arith)
rising_order (rising_more l m x) i zero k h = absurd (omega arith)
rising_order (rising_more l m x) zero (suc j) k h = rising_least x j (omega arith)
rising_order (rising_more l m x) (suc i) (suc j) k h = rising_order x i j (omega arith) (omega arith)

-- where spans are in their place, the first bytes rise in the span
mutual
  unfolding firsts

  pub placed_rises : {t : Tree} → Placed t → Rising (first t) (firsts t) (after t)
  placed_rises (placed_leaf {a = a} h) = rising_more {lo = a} {n = a} (omega arith) h rising_none
  placed_rises (placed_node {a = a} h l) = rising_more {lo = a} {n = a} (omega arith) h (along_rises l)

  pub along_rises : {a e : ℕ} {ts : Forest} → Along a ts e → Rising a (firsts_in ts) e
  along_rises (along_none h) = rising_none
  along_rises {a} (along_more {t = t} h p l) =
      let s = span_some p in
      rising_append {a = a} {b = after t} (omega arith) (along_le l) (rising_from h (placed_rises p)) (along_rises l)
