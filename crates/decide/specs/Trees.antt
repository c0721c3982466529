-- VERSIONS IN TREES AND IN ROWS: where a tree stands in the rows, it is a version exactly if its row is one's, and the places have the same numbers. Assumes nothing.
use Rattle.std.specs.Prelude.{◌≡◌, Bool, List, [], ◌∷◌, pos}
use Rattle.std.proofs.Math.Path.{refl, sym, ap, subst}
use Rattle.std.proofs.Common.{◌∙◌}
use Rattle.std.proofs.Math.Bool.{true, false}
use Prim.Native.Nat.{ℕ, zero, suc, ◌+◌, ◌*◌, ◌≤◌, ◌<◌}
use native.Mathlib.Omega.{arith}
use Rattle.std.proofs.Math.ListN.{length}
use Rattle.std.proofs.Math.Dec.{ltb}
use borrow.Author.Tests.{ltb-true, ltb-false}
use Rattle.notation.specs.Class.{pick}
use Rattle.language.specs.Kind.{INTEGER, BYTES, ARRAY}
use Rattle.language.specs.Tree.{Decoded, Tree, leaf, node, Forest, more, width, size, sizes, text_of}
use Rattle.language.specs.Lent.{words_in}
use Rattle.questions.specs.Text as questions
use Rattle.integers.specs.Integer.{integer}
use Rattle.shaped.specs.Shaped.{Scalar, is_an_integer, is_bytes, Shaped, shaped_leaf, shaped_array, shaped_object, Elements, elements_none, elements_more}
use Rattle.shaped.specs.RowsAt.{RowsAt, ForestAt, leaf_row, node_row, node_forest, first_at, rest_at}
use Rattle.upgrade.specs.Version.{Numbers, no_number, one_number, Version, version, most, place}
use Rattle.upgrade.specs.Order.{place_past}
use Rattle.upgrade.specs.Sheet.{Image, image}
use Rattle.decide.specs.Rows.{count_at, zero_text, value_of, value_one, zero_value, NaturalRow, NaturalRows, VersionRow, ImageRow, place_text, number_at}
use Rattle.decide.specs.Texts.{leaf_answers}

integer_text : {k : ℕ} {s : List ℕ} → k ≡ INTEGER → Scalar k s → Rattle.integers.specs.Integer.is_integer s ≡ true
integer_text e Scalar.is_null = absurd (omega arith)
integer_text e Scalar.is_false = absurd (omega arith)
integer_text e Scalar.is_true = absurd (omega arith)
integer_text e (is_an_integer h) = h
integer_text e (Scalar.is_float h) = absurd (omega arith)
integer_text e (Scalar.is_string h) = absurd (omega arith)
integer_text e (is_bytes h) = absurd (omega arith)

pub no_container : {k : ℕ} {s : List ℕ} → Scalar k s → ARRAY ≤ k → ⊥
no_container Scalar.is_null l = omega arith
no_container Scalar.is_false l = omega arith
no_container Scalar.is_true l = omega arith
no_container (is_an_integer h) l = omega arith
no_container (Scalar.is_float h) l = omega arith
no_container (Scalar.is_string h) l = omega arith
no_container (is_bytes h) l = omega arith

module _ (table : List ℕ) (rows : ℕ) (text : List ℕ) (fits : width * rows ≤ words_in table) where
  -- a tree stands in row r and those behind it
  pub record Stands (k r p x : ℕ) (t : Tree) : Type 0 where
    pub shaped : Shaped k t
    pub at : RowsAt table text r p x t
    pub below : r + size t ≤ rows

  -- ---- one place

  abbrev answer : ℕ → List ℕ
  answer r = questions.text_of table rows text r

  -- an integer's row, and what it tells
  natural_row : {k r p x a e n : ℕ} {s : Decoded} → Shaped k (leaf INTEGER a e s) → RowsAt table text r p x (leaf INTEGER a e s) → r < rows → integer s.bytes ≡ pos n
      → NaturalRow table rows text r × (value_of (answer r) ≡ n)
  natural_row {r = r} {n = n} {s = s} (shaped_leaf z) h l e =
      let g = leaf_answers table rows text fits refl refl l h in (
        record {
          inside = l;
          kind_is = (leaf_row table text h).kind_is;
          natural = record { text = ap Rattle.integers.specs.Integer.is_integer g ∙ integer_text refl z; value = n; is = ap integer g ∙ e };
        },
        value_one (answer r) (ap integer g ∙ e),
      )

  -- a tree whose row is an integer's
  pub record Whole (t : Tree) : Type 0 where
    pub number : ℕ
    pub from : ℕ
    pub to : ℕ
    pub decoded : Decoded
    pub is : t ≡ leaf INTEGER from to decoded
    pub value : integer decoded.bytes ≡ pos number

  row_natural : {k r p x : ℕ} {t : Tree} → Shaped k t → RowsAt table text r p x t → NaturalRow table rows text r → Whole t
  row_natural {r = r} {p = p} {x = x} (shaped_leaf {kind = k} {a = a} {e = e} {s = s} z) h n =
      let q : k ≡ INTEGER = sym (leaf_row table text h).kind_is ∙ n.kind_is in
      let i : RowsAt table text r p x (leaf INTEGER a e s) = subst (λ (j : ℕ). RowsAt table text r p x (leaf j a e s)) q h in
      record {
        number = n.natural.value;
        from = a;
        to = e;
        decoded = s;
        is = ap (λ (j : ℕ). leaf j a e s) q;
        value = ap integer (sym (leaf_answers table rows text fits refl refl n.inside i)) ∙ n.natural.is;
      }
  row_natural (shaped_array z) h n = absurd (omega (arith, (node_row table text h).kind_is, n.kind_is))
  row_natural (shaped_object z) h n = absurd (omega (arith, (node_row table text h).kind_is, n.kind_is))

  -- ---- places one behind another

  pub record Placed (r : ℕ) (ns : List ℕ) : Type 0 where
    pub naturals : NaturalRows table rows text r (length ns)
    pub values : (i : ℕ) → i < length ns → value_of (answer (r + i)) ≡ place ns i

  placed_more : {r n : ℕ} {ns : List ℕ} → NaturalRow table rows text r → value_of (answer r) ≡ n → Placed (r + 1) ns → Placed r (n ∷ ns)
  placed_more {r} {n} {ns} h e y = record { naturals = naturals; values = values }
    where
      naturals : (i : ℕ) → i < length (n ∷ ns) → NaturalRow table rows text (r + i)
      naturals zero l = rw (let z : r + 0 ≡ r = omega arith in z) h
      naturals (suc i) l = rw (let z : r + suc i ≡ r + 1 + i = omega arith in z) (y.naturals i (omega arith))

      values : (i : ℕ) → i < length (n ∷ ns) → value_of (answer (r + i)) ≡ place (n ∷ ns) i
      values zero l = rw (let z : r + 0 ≡ r = omega arith in z) e
      values (suc i) l = rw (let z : r + suc i ≡ r + 1 + i = omega arith in z) (y.values i (omega arith))

  numbers_placed : {k n r p x : ℕ} {ts : Forest} {ns : List ℕ} → Numbers ts ns → Elements k n ts → ForestAt table text r p x ts → r + sizes ts ≤ rows → Placed r ns × (length ns ≡ n)
  unfolding size
  numbers_placed no_number elements_none h l = (record { naturals = λ i m. absurd (omega arith); values = λ i m. absurd (omega arith) }, refl)
  numbers_placed (one_number e xs) (elements_more {n = n} s ys) h l =
      let g = natural_row s (first_at table text h) (omega arith) e in
      let rest = numbers_placed {n = n} xs ys (rest_at table text h) (omega arith) in
      (placed_more g.0 g.1 rest.0, ap suc rest.1)

  pub record Numbered (ts : Forest) (n : ℕ) : Type 0 where
    pub list : List ℕ
    pub numbers : Numbers ts list
    pub long : length list ≡ n

  rows_numbers : {k n r p x : ℕ} {ts : Forest} → Elements k n ts → ForestAt table text r p x ts → NaturalRows table rows text r n → Numbered ts n
  unfolding size
  rows_numbers elements_none h f = record { list = []; numbers = no_number; long = refl }
  rows_numbers {r = r} {p = p} {x = x} (elements_more {n = n} {t = t} {ts = ts} s ys) h f =
      let w = row_natural s (first_at table text h) (subst (NaturalRow table rows text) (let z : r + 0 ≡ r = omega arith in z) (f 0 (omega arith))) in
      let one : size t ≡ 1 = ap size w.is in
      let g : ForestAt table text (r + 1) p (x + length (text_of t)) ts = subst (λ (m : ℕ). ForestAt table text (r + m) p (x + length (text_of t)) ts) one (rest_at table text h) in
      let y = rows_numbers ys g (λ i l. subst (NaturalRow table rows text) (let z : r + suc i ≡ r + 1 + i = omega arith in z) (f (suc i) (omega arith))) in
      record { list = w.number ∷ y.list; numbers = subst (λ (u : Tree). Numbers (more u ts) (w.number ∷ y.list)) (sym w.is) (one_number w.value y.numbers); long = ap suc y.long }

  -- ---- versions

  -- the row of a version, and its numbers
  pub record Reads (r : ℕ) (ns : List ℕ) : Type 0 where
    pub row : VersionRow table rows text r
    pub numbers : (i : ℕ) → number_at table rows text r i ≡ place ns i

  -- the number of a place, given or missing
  number_is : (r : ℕ) {ns : List ℕ} → count_at table r ≡ length ns → Placed (r + 1) ns → (i : ℕ) → number_at table rows text r i ≡ place ns i
  unfolding place_text
  number_is r {ns} c y i = go (ltb i (count_at table r)) refl
    where
      go : (b : Bool) → ltb i (count_at table r) ≡ b → value_of (pick b (answer (r + 1 + i)) zero_text) ≡ place ns i
      go true e = let l = ltb-true i (count_at table r) e in y.values i (omega arith)
      go false e = let l = ltb-false i (count_at table r) e in zero_value ∙ sym (place_past ns i (omega arith))

  array_reads : {k r p x a e c : ℕ} {ts : Forest} {ns : List ℕ} → Shaped k (node ARRAY a e c ts) → RowsAt table text r p x (node ARRAY a e c ts) → r + size (node ARRAY a e c ts) ≤ rows
      → Numbers ts ns → 1 ≤ length ns → length ns ≤ most → Reads r ns
  unfolding size
  array_reads {r = r} {ns = ns} (shaped_array ys) h b xs l m =
      let w = node_row table text h in
      let g = numbers_placed xs ys (node_forest table text h) (omega arith) in
      let c : count_at table r ≡ length ns = w.to_is ∙ sym g.1 in
      record {
        row = record { kind_is = w.kind_is; some = omega arith; few = omega arith; places = rw c g.0.naturals };
        numbers = number_is r c g.0;
      }

  pub version_reads : {k r p x : ℕ} {t : Tree} {ns : List ℕ} → Stands k r p x t → Version t ns → Reads r ns
  version_reads s (version xs l m) = array_reads s.shaped s.at s.below xs l m

  -- and back
  pub record Versioned (t : Tree) : Type 0 where
    pub list : List ℕ
    pub is : Version t list

  array_versioned : {k r p x a e c : ℕ} {ts : Forest} → Elements k c ts → RowsAt table text r p x (node ARRAY a e c ts) → VersionRow table rows text r → Versioned (node ARRAY a e c ts)
  array_versioned {r = r} {c = c} ys h v =
      let w = node_row table text h in
      let y = rows_numbers ys (node_forest table text h) (λ i l. v.places i (omega (arith, w.to_is))) in
      record { list = y.list; is = version y.numbers (omega (arith, y.long, w.to_is, v.some)) (omega (arith, y.long, w.to_is, v.few)) }

  pub row_version : {k r p x : ℕ} {t : Tree} → Shaped k t → RowsAt table text r p x t → VersionRow table rows text r → Versioned t
  row_version (shaped_leaf z) h v = absurd (no_container z (omega (arith, (leaf_row table text h).kind_is, v.kind_is)))
  row_version (shaped_array ys) h v = array_versioned ys h v
  row_version (shaped_object z) h v = absurd (omega (arith, (node_row table text h).kind_is, v.kind_is))

  -- ---- images

  pub image_row : {r p x : ℕ} {t : Tree} → RowsAt table text r p x t → r < rows → Image t → ImageRow table rows text r
  image_row h l (image e) = record { kind_is = (leaf_row table text h).kind_is; long = ap length (leaf_answers table rows text fits refl refl l h) ∙ e }

  pub row_image : {k r p x : ℕ} {t : Tree} → Shaped k t → RowsAt table text r p x t → r < rows → ImageRow table rows text r → Image t
  row_image {r = r} {p = p} {x = x} (shaped_leaf {kind = k} {a = a} {e = e} {s = s} z) h l i =
      let q : k ≡ BYTES = sym (leaf_row table text h).kind_is ∙ i.kind_is in
      let g : RowsAt table text r p x (leaf BYTES a e s) = subst (λ (j : ℕ). RowsAt table text r p x (leaf j a e s)) q h in
      subst (λ (j : ℕ). Image (leaf j a e s)) (sym q) (image (ap length (sym (leaf_answers table rows text fits refl refl l g)) ∙ i.long))
  row_image (shaped_array z) h l i = absurd (omega (arith, (node_row table text h).kind_is, i.kind_is))
  row_image (shaped_object z) h l i = absurd (omega (arith, (node_row table text h).kind_is, i.kind_is))
