-- SPANS IN THE WORDS OF A TABLE that holds the rows of a tree: each child's inside its parent's, siblings' disjoint and in order, all inside the document (01, What the reader takes and gives). Assumes nothing.
use Rattle.std.specs.Prelude.{◌≡◌, List, Bool, true, false, ℕ, suc, ◌+◌, ◌*◌, ◌≤◌, ◌<◌, length, leb}
use Rattle.std.proofs.Common.{sym, subst}
use Rattle.std.proofs.Math.Path.{ap}
use native.Mathlib.Omega.{arith}
use Rattle.std.proofs.Math.Decide.{dec_le}
use Rattle.notation.specs.Class.{pick}
use Rattle.language.specs.Kind.{TRUE}
use Rattle.language.specs.Tree.{Positions, Tree, leaf, node, Forest, none, more, first, after, width, size, sizes, text_of, row_list, leaf_row, rows_of, rowss}
use Rattle.rooms.specs.Forest.{length_rows}
use Rattle.spans.specs.Placed.{Placed, Along, placed_leaf, placed_node, along_none, along_more, along_le, span_some}
use Rattle.questions.specs.Table.{word}
use Rattle.lined.specs.Lined.{first_byte}
use Rattle.found.specs.Stands.{Stands, stands_left, stands_right, stands_word}

-- "byte after it; .. parent row"
abbrev pub byte_after : List ℕ → ℕ → ℕ
byte_after table r = word table r 2

abbrev pub parent_row : List ℕ → ℕ → ℕ
parent_row table r = word table r 5

-- THE SPANS OF n ROWS of a document of so many bytes. Row 0 is the root's, which has no parent
pub record RowSpans (bytes n : ℕ) (table : List ℕ) : Type 0 where
  pub earlier : (r : ℕ) → 0 < r → r < n → parent_row table r < r
  -- "Each child's span lies inside its parent's"
  pub inside : (r : ℕ) → 0 < r → r < n
      → (first_byte table (parent_row table r) ≤ first_byte table r) × (byte_after table r ≤ byte_after table (parent_row table r))
  -- "siblings' spans are disjoint and in order"
  pub in_order : (r q : ℕ) → 0 < r → r < q → q < n → parent_row table r ≡ parent_row table q → byte_after table r ≤ first_byte table q
  -- no span is empty, and all lie inside the document
  pub in_document : (r : ℕ) → r < n → (first_byte table r < byte_after table r) × (byte_after table r ≤ bytes)

-- one of two ranges of rows
pub either : {C : Type 0} (m n : ℕ) → (m ≤ n → C) → (n < m → C) → C
either {C} m n f g = by (dec_le m n)
  where
    by : Dec (m ≤ n) → C
    by (yes x) = f x
    by (no x) = g (omega arith)

module _ (L : Positions) (table : List ℕ) where
  -- the row b of a tree with the span from a to e, whose parent is p
  record Own (b p a e : ℕ) : Type 0 where
    begins : first_byte table b ≡ a
    ends : byte_after table b ≡ e
    parent : parent_row table b ≡ p

  -- the span of the row r lies in its parent's, an earlier row from p on, and in the bytes from a to e
  record Lies (p a e r : ℕ) : Type 0 where
    least : p ≤ parent_row table r
    before : parent_row table r < r
    begins : first_byte table (parent_row table r) ≤ first_byte table r
    ends : byte_after table r ≤ byte_after table (parent_row table r)
    some : first_byte table r < byte_after table r
    low : a ≤ first_byte table r
    high : byte_after table r ≤ e

  -- n rows from b on do so, and those of one parent stand in order
  record Rows (p b n a e : ℕ) : Type 0 where
    lies : (r : ℕ) → b ≤ r → r < b + n → Lies p a e r
    order : (r q : ℕ) → b ≤ r → r < q → q < b + n → parent_row table r ≡ parent_row table q → byte_after table r ≤ first_byte table q

  list_own : (b p k a e u v n : ℕ) → Stands table (width * b) (row_list L k a e u v p n) → Own b p a e
  unfolding word
  list_own b p k a e u v n h = record { begins = stands_word h 1 (omega arith); ends = stands_word h 2 (omega arith); parent = stands_word h 5 (omega arith) }

  leaf_own : (b p x k a e : ℕ) (s : List ℕ) → Stands table (width * b) (leaf_row L b p x k a e s) → Own b p a e
  leaf_own b p x k a e s h = by (leb k TRUE) h
    where
      by : (y : Bool) → Stands table (width * b) (pick y (row_list L k a e 0 0 p (b + 1)) (row_list L k a e x (x + length s) p (b + 1))) → Own b p a e
      by true z = list_own b p k a e 0 0 (b + 1) z
      by false z = list_own b p k a e x (x + length s) (b + 1) z

  own_lies : {b p a e r : ℕ} → Own b p a e → p < b → a < e → first_byte table p ≤ a → e ≤ byte_after table p → r ≡ b → Lies p a e r
  own_lies {b} {p} {a} {e} {r} o l h x y z = subst (Lies p a e) (sym z) (
      let c = ap (first_byte table) o.parent in
      let d = ap (byte_after table) o.parent in
      record {
        least = omega (arith, o.parent);
        before = omega (arith, o.parent);
        begins = omega (arith, o.begins);
        ends = omega (arith, o.ends);
        some = omega (arith, o.begins, o.ends);
        low = omega (arith, o.begins);
        high = omega (arith, o.ends);
      }
      )

  -- further down and in more bytes
  lies_wide : {p q a b e f r : ℕ} → p ≤ q → a ≤ b → e ≤ f → Lies q b e r → Lies p a f r
  lies_wide l h k x =
      record {
        least = omega (arith, x.least);
        before = x.before;
        begins = x.begins;
        ends = x.ends;
        some = x.some;
        low = omega (arith, x.low);
        high = omega (arith, x.high);
      }

  -- a leaf; a container and what is below it; no tree; a tree and those behind it
  leaf_rows : {b p a e : ℕ} → Own b p a e → p < b → a < e → first_byte table p ≤ a → e ≤ byte_after table p → Rows p b 1 a e
  leaf_rows o l h x y = record { lies = λ r i j. own_lies o l h x y (omega arith); order = λ r q i j k z. absurd (omega arith) }

  node_rows : {b p n a e : ℕ} → Own b p a e → p < b → a < e → first_byte table p ≤ a → e ≤ byte_after table p → Rows b (b + 1) n a e → Rows p b (suc n) a e
  node_rows {b} {p} {n} {a} {e} o l h x y z =
      record {
        lies = λ r i j. either
            (b + 1)
            r
            (λ k. lies_wide {p = p} {q = b} {a = a} {b = a} {e = e} {f = e} (omega arith) (omega arith) (omega arith) (z.lies r k (omega arith)))
            (λ k. own_lies o l h x y (omega arith));
        order = λ r q i j k s. either
            (b + 1)
            r
            (λ m. z.order r q m j (omega arith) s)
            (λ m. let c : r ≡ b = omega arith in let d = z.lies q (omega arith) (omega arith) in absurd (omega (arith, ap (parent_row table) c, o.parent, d.least)));
      }

  no_rows : {p b a e : ℕ} → Rows p b 0 a e
  no_rows = record { lies = λ r i j. absurd (omega arith); order = λ r q i j k s. absurd (omega arith) }

  more_rows : {p b m n a c d e : ℕ} → a ≤ c → c < d → d ≤ e → Rows p b m c d → Rows p (b + m) n d e → Rows p b (m + n) a e
  more_rows {p} {b} {m} {n} {a} {c} {d} {e} h k l x y =
      record {
        lies = λ r i j. either
            (b + m)
            r
            (λ f. lies_wide {p = p} {q = p} {a = a} {b = d} {e = e} {f = e} (omega arith) (omega arith) (omega arith) (y.lies r f (omega arith)))
            (λ f. lies_wide {p = p} {q = p} {a = a} {b = c} {e = d} {f = e} (omega arith) h l (x.lies r i f));
        order = λ r q i j f s. either
            (b + m)
            r
            (λ g. y.order r q g j (omega arith) s)
            (λ g. either
            (b + m)
            q
            (λ o. omega (arith, (x.lies r i g).high, (y.lies q o (omega arith)).low))
            (λ o. x.order r q i j o s));
      }

  mutual
    unfolding size rows_of

    tree_rows : (x : ℕ) {b p : ℕ} {t : Tree} → p < b → Stands table (width * b) (rows_of L b p x t) → Placed t → first_byte table p ≤ first t → after t ≤ byte_after table p
        → Rows p b (size t) (first t) (after t)
    tree_rows x {b} {p} l h (placed_leaf {k} {a} {e} {s} i) y z = leaf_rows (leaf_own b p x k a e s.bytes h) l i y z
    tree_rows x {b} {p} l h (placed_node {k} {a} {e} {c} {ts} i m) y z =
        let w = row_list L k a e 0 c p (b + 1 + sizes ts) in
        let v = rowss L (b + 1) b x ts in
        let o = list_own b p k a e 0 c (b + 1 + sizes ts) (stands_left w v h) in
        node_rows o l i y z (forest_rows x (omega arith) (stands_right w v h (width * (b + 1)) (omega arith)) m (omega (arith, o.begins)) (omega (arith, o.ends)))

    forest_rows : (x : ℕ) {b p a e : ℕ} {ts : Forest} → p < b → Stands table (width * b) (rowss L b p x ts) → Along a ts e → first_byte table p ≤ a → e ≤ byte_after table p
        → Rows p b (sizes ts) a e
    forest_rows x l h (along_none i) y z = no_rows
    forest_rows x {b} {p} l h (along_more {t = t} {ts = ts} i m n) y z =
        let u = rows_of L b p x t in
        let v = rowss L (b + size t) p (x + length (text_of t)) ts in
        let g = along_le n in
        let s = span_some m in
        more_rows i s g
        (tree_rows x l (stands_left u v h) m (omega arith) (omega arith))
        (forest_rows (x + length (text_of t)) (omega arith) (stands_right u v h (width * (b + size t)) (omega (arith, length_rows L b p x t))) n (omega arith) z)

  -- THE ROWS OF A TREE in its place, which ends within so many bytes
  pub row_spans : {bytes : ℕ} {t : Tree} → Stands table 0 (rows_of L 0 0 0 t) → Placed t → after t ≤ bytes → RowSpans bytes (size t) table
  unfolding size rows_of
  row_spans h (placed_leaf {k} {a} {e} {s} i) l =
      let o = leaf_own 0 0 0 k a e s.bytes h in
      record {
        earlier = λ r m n. absurd (omega arith);
        inside = λ r m n. absurd (omega arith);
        in_order = λ r q m n p s. absurd (omega arith);
        in_document = λ r m. let z : r ≡ 0 = omega arith in (omega (arith, ap (first_byte table) z, ap (byte_after table) z, o.begins, o.ends), omega (arith, ap (byte_after table) z, o.ends));
      }
  row_spans {bytes} h (placed_node {k} {a} {e} {c} {ts} i m) l =
      let w = row_list L k a e 0 c 0 (0 + 1 + sizes ts) in
      let v = rowss L (0 + 1) 0 0 ts in
      let o = list_own 0 0 k a e 0 c (0 + 1 + sizes ts) (stands_left w v h) in
      let z : Rows 0 1 (sizes ts) a e =
      forest_rows 0 (omega arith) (stands_right w v h (width * 1) (omega arith)) m (omega (arith, o.begins)) (omega (arith, o.ends)) in
      record {
        earlier = λ r f g. (z.lies r f (omega arith)).before;
        inside = λ r f g. let y = z.lies r f (omega arith) in (y.begins, y.ends);
        in_order = λ r q f g j s. z.order r q f g (omega arith) s;
        in_document = λ r f. either
            (1)
            r
            (λ g. let y = z.lies r g (omega arith) in (y.some, omega (arith, y.high)))
            (λ g. let q : r ≡ 0 = omega arith in (omega (arith, ap (first_byte table) q, ap (byte_after table) q, o.begins, o.ends), omega (arith, ap (byte_after table) q, o.ends)));
      }
