-- ROWS BY THEIR KINDS: which tree stands in a row of a kind, and what its words then are; and which words make it stand there. Assumes nothing.
use Rattle.std.specs.Prelude.{◌≡◌, List, [], Bool, ℕ, zero, suc, ◌+◌, ◌*◌, ◌≤◌, ◌<◌, length, get_or}
use Rattle.std.proofs.Math.Path.{refl}
use Rattle.std.proofs.Common.{subst, arith, le-leb}
use Rattle.std.proofs.Math.Bool.{true, false}
use Rattle.std.proofs.Math.Seq.{slice, length-slice}
use Rattle.std.proofs.lemmas.Bool.{lt-leb}
use Rattle.language.specs.Kind.{TRUE, KEY}
use Rattle.language.specs.Tree.{Decoded, unescaped, Tree, leaf, node, Forest, none, more, width, size, sizes, text_of, texts_of}
use Rattle.language.specs.Lent.{bytes_in}
use Rattle.shaped.specs.Shaped.{Scripted, Scalar, is_null, is_false, is_true, is_an_integer, is_float, is_string, is_bytes, Shaped, shaped_leaf, shaped_array, shaped_object}
use Rattle.shaped.specs.RowIs.{RowIs}
use Rattle.shaped.specs.RowsAt.{RowsAt, ForestAt, leaf_row, node_at, node_row, node_forest}
use Rattle.shaped.specs.Leaves.{word_at, word_row, part_at, part_row, part_is, part_fits}
use Rattle.sound.specs.Distinct.{Distinct, once_distinct, leaf_once}
use Rattle.sound.specs.Members.{Sane, One, IsKey, is_a_key, Member, container_kind, Many, contained, array_many, object_many}
use Rattle.sound.specs.Tested.{Stand, alone}
use Rattle.sound.specs.Walk.{Passed}

-- the kind and the parent that a row names
abbrev pub kind_at : List ℕ → ℕ → ℕ
kind_at table r = get_or table (width * r) 0

abbrev pub parent_at : List ℕ → ℕ → ℕ
parent_at table r = get_or table (width * r + 5) 0

-- text start, text end and row after the last descendant
pub record Words (table : List ℕ) (r from to next : ℕ) : Type 0 where
  pub from_is : get_or table (width * r + 3) 0 ≡ from
  pub to_is : get_or table (width * r + 4) 0 ≡ to
  pub next_is : get_or table (width * r + 6) 0 ≡ next

words_row : {table : List ℕ} {r k from to p next : ℕ} → kind_at table r ≡ k → parent_at table r ≡ p → Words table r from to next → RowIs table r k from to p next
words_row e f w = record { kind_is = e; from_is = w.from_is; to_is = w.to_is; parent_is = f; next_is = w.next_is }

row_words : {table : List ℕ} {r k from to p next : ℕ} → RowIs table r k from to p next → Words table r from to next
row_words w = record { from_is = w.from_is; to_is = w.to_is; next_is = w.next_is }

-- the kinds of scalars
scalar_low : {k : ℕ} {s : List ℕ} → Scalar k s → (1 ≤ k) × (k ≤ 7)
scalar_low is_null = omega arith
scalar_low is_false = omega arith
scalar_low is_true = omega arith
scalar_low (is_an_integer x) = omega arith
scalar_low (is_float x) = omega arith
scalar_low (is_string x) = omega arith
scalar_low (is_bytes x) = omega arith

keyword_scalar : (k : ℕ) → 1 ≤ k → k ≤ 3 → Scalar k []
keyword_scalar zero h l = absurd (omega arith)
keyword_scalar (suc zero) h l = is_null
keyword_scalar (suc (suc zero)) h l = is_false
keyword_scalar (suc (suc (suc zero))) h l = is_true
keyword_scalar (suc (suc (suc (suc k)))) h l = absurd (omega arith)

module _ (table text : List ℕ) (r p x : ℕ) where
  -- NULL, FALSE, TRUE
  pub keyword_words : (a : ℕ) (t : Tree) → Sane a t → RowsAt table text r p x t → kind_at table r ≤ 3 → Words table r 0 0 (r + 1)
  keyword_words a t s h l = by s.shaped h
    where
      by : {b : ℕ} {t : Tree} → Shaped b t → RowsAt table text r p x t → Words table r 0 0 (r + 1)
      by (shaped_leaf {kind = k} z) h = row_words (word_row table text (le-leb k TRUE (omega (arith, (leaf_row table text h).kind_is))) h)
      by (shaped_array z) h = absurd (omega (arith, (node_row table text h).kind_is))
      by (shaped_object z) h = absurd (omega (arith, (node_row table text h).kind_is))

  pub keyword_stands : (a stop : ℕ) → 1 ≤ kind_at table r → kind_at table r ≤ 3 → parent_at table r ≡ p → Words table r 0 0 (r + 1) → x ≤ bytes_in text → r < stop
      → Stand table text (One (Sane a)) stop r p x (r + 1) x
  unfolding size text_of
  keyword_stands a stop g l e w i j =
      alone table text (leaf (kind_at table r) 0 0 (unescaped []))
      (record { shaped = shaped_leaf (keyword_scalar (kind_at table r) g l); once = leaf_once })
      (word_at table text (le-leb (kind_at table r) TRUE l) i (words_row refl e w))
      (r + 1) x (omega arith) (omega arith) (omega arith)

  -- A ROW WITH A TEXT, which goes on from x
  pub record Texted (to : ℕ) : Type 0 where
    pub words : Words table r x to (r + 1)
    pub order : x ≤ to
    pub fits : to ≤ bytes_in text

  -- INTEGER to BYTES
  pub record Scalared (k to : ℕ) : Type 0 where
    pub texted : Texted to
    pub scalar : Scalar k (slice x to text)

  leaf_texted : {k a e : ℕ} {d : Decoded} → 3 < k → RowsAt table text r p x (leaf k a e d) → Texted (x + length d.bytes)
  leaf_texted {k} l h =
      record {
        words = row_words (part_row table text (lt-leb k TRUE l) h);
        order = omega arith;
        fits = part_fits table text h;
      }

  pub scalar_words : (a : ℕ) (t : Tree) → Sane a t → RowsAt table text r p x t → 3 < kind_at table r → kind_at table r ≤ 7 → (to : ℕ) × Scalared (kind_at table r) to
  scalar_words a t s h l m = by s.shaped h
    where
      by : {b : ℕ} {t : Tree} → Shaped b t → RowsAt table text r p x t → (to : ℕ) × Scalared (kind_at table r) to
      by (shaped_leaf {kind = k} {s = d} z) h =
          let i = (leaf_row table text h).kind_is in
          (x + length d.bytes, record { texted = leaf_texted (omega (arith, i)) h; scalar = rw i (subst (Scalar k) (part_is table text h) z) })
      by (shaped_array z) h = absurd (omega (arith, (node_row table text h).kind_is))
      by (shaped_object z) h = absurd (omega (arith, (node_row table text h).kind_is))

  leaf_stands : {P : Tree → Type 0} (k stop to : ℕ) → 3 < k → kind_at table r ≡ k → parent_at table r ≡ p → Texted to → P (leaf k 0 0 (unescaped (slice x to text))) → r < stop
      → Stand table text (One P) stop r p x (r + 1) to
  unfolding size text_of
  leaf_stands k stop to l g e w z j =
      let n = length-slice x to text (omega (arith, w.fits)) in
      alone table text (leaf k 0 0 (unescaped (slice x to text))) z
      (part_at table text to (lt-leb k TRUE l) w.order w.fits (words_row g e w.words))
      (r + 1) to (omega arith) (omega (arith, w.order)) (omega arith)

  pub scalar_stands : (a stop to : ℕ) → 3 < kind_at table r → parent_at table r ≡ p → Scalared (kind_at table r) to → r < stop → Stand table text (One (Sane a)) stop r p x (r + 1) to
  scalar_stands a stop to l e w j =
      leaf_stands (kind_at table r) stop to l refl e w.texted (record { shaped = shaped_leaf w.scalar; once = leaf_once }) j

  -- A KEY
  pub key_words : (t : Tree) → IsKey t → RowsAt table text r p x t → (to : ℕ) × Texted to × Scripted (slice x to text)
  key_words _ (is_a_key {s = d} z) h = (x + length d.bytes, leaf_texted (omega arith) h, subst Scripted (part_is table text h) z)

  pub key_kind : (t : Tree) → IsKey t → RowsAt table text r p x t → kind_at table r ≡ KEY
  key_kind _ (is_a_key z) h = (leaf_row table text h).kind_is

  pub key_stands : (stop to : ℕ) → kind_at table r ≡ KEY → parent_at table r ≡ p → Texted to → Scripted (slice x to text) → r < stop → Stand table text (One IsKey) stop r p x (r + 1) to
  key_stands stop to g e w z j = leaf_stands KEY stop to (omega arith) g e w (is_a_key z) j

  -- NO OTHER KIND
  pub other_none : (a : ℕ) (t : Tree) → Sane a t → RowsAt table text r p x t → (1 ≤ kind_at table r) × (kind_at table r ≤ 9)
  other_none a t s h = by s.shaped h
    where
      by : {b : ℕ} {t : Tree} → Shaped b t → RowsAt table text r p x t → (1 ≤ kind_at table r) × (kind_at table r ≤ 9)
      by (shaped_leaf {kind = k} {s = d} z) h =
          let i = (leaf_row table text h).kind_is in
          let j = scalar_low z in
          (omega (arith, i, j.0), omega (arith, i, j.1))
      by (shaped_array z) h = let i = (node_row table text h).kind_is in (omega arith, omega arith)
      by (shaped_object z) h = let i = (node_row table text h).kind_is in (omega arith, omega arith)

  -- A CONTAINER: its members, its words, and no two equal keys
  pub record Container (o : Bool) (a : ℕ) (t : Tree) : Type 0 where
    pub allow : ℕ
    pub one_less : a ≡ suc allow
    pub count : ℕ
    pub children : Forest
    pub many : Many (Member o allow) count children
    pub words : Words table r 0 count (r + 1 + sizes children)
    pub stand : ForestAt table text (r + 1) r x children
    pub rows : size t ≡ 1 + sizes children
    pub distinct : Distinct children

  pub container_words : (o : Bool) (a : ℕ) (t : Tree) → Sane a t → RowsAt table text r p x t → kind_at table r ≡ container_kind o → Container o a t
  unfolding size
  container_words o a t s h e = by o s.shaped s.once h e
    where
      by : (o : Bool) {a : ℕ} {t : Tree} → Shaped a t → Rattle.language.specs.Tree.Once t → RowsAt table text r p x t → kind_at table r ≡ container_kind o → Container o a t
      by true (shaped_leaf z) u h g = absurd (omega (arith, (leaf_row table text h).kind_is, (scalar_low z).1))
      by false (shaped_leaf z) u h g = absurd (omega (arith, (leaf_row table text h).kind_is, (scalar_low z).1))
      by true (shaped_array z) u h g = absurd (omega (arith, (node_row table text h).kind_is))
      by false (shaped_object z) u h g = absurd (omega (arith, (node_row table text h).kind_is))
      by false (shaped_array {k = k} {n = n} {ts = ts} z) u h g =
          record {
            allow = k;
            one_less = refl;
            count = n;
            children = ts;
            many = array_many z u;
            words = row_words (node_row table text h);
            stand = node_forest table text h;
            rows = omega arith;
            distinct = once_distinct u;
          }
      by true (shaped_object {k = k} {n = n} {ts = ts} z) u h g =
          record {
            allow = k;
            one_less = refl;
            count = n;
            children = ts;
            many = object_many z u;
            words = row_words (node_row table text h);
            stand = node_forest table text h;
            rows = omega arith;
            distinct = once_distinct u;
          }

  pub container_stands : (o : Bool) (k stop end y n : ℕ) → kind_at table r ≡ container_kind o → parent_at table r ≡ p → Words table r 0 n end
      → (w : Passed table text o k r (r + 1) x end end y n) → Distinct w.front → end ≤ stop → Stand table text (One (Sane (suc k))) stop r p x end y
  unfolding size text_of
  container_stands o k stop end y n g e w q d l =
      let f = q.front in
      alone table text (node (container_kind o) 0 0 n f) (contained o q.many d)
      (node_at table text (words_row g e (subst (Words table r 0 n) (let z : end ≡ r + 1 + sizes f = omega (arith, q.row) in z) w)) q.stand)
      end y (omega (arith, q.row)) (omega (arith, q.place)) l
