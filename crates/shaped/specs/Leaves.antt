-- LEAVES READ OFF THEIR ROWS: a leaf of kind 1 to 3 has the words 0 and 0 and no text, any other the part of the text room that its words name. Assumes nothing.
use Rattle.std.specs.Prelude.{◌≡◌, List, [], true, false, ℕ, ◌+◌, ◌≤◌, length, leb}
use Rattle.std.proofs.Common.{sym, arith}
use Rattle.std.proofs.Math.Seq.{slice, length-slice}
use Rattle.language.specs.Kind.{TRUE}
use Rattle.language.specs.Tree.{Decoded, leaf}
use Rattle.language.specs.Lent.{bytes_in}
use Rattle.shaped.specs.RowIs.{RowIs}
use Rattle.shaped.specs.TextAt.{text_none, text_slice, slice_text}
use Rattle.shaped.specs.RowsAt.{RowsAt, leaf_at, leaf_row, leaf_text}

module _ (table text : List ℕ) {r p x k a e : ℕ} where
  -- "For kinds 1 to 3 both text words are 0"
  pub word_at : {n : ℕ} → leb k TRUE ≡ true → x ≤ bytes_in text → RowIs table r k 0 0 p (r + 1) → RowsAt table text r p x (leaf k a e (record { bytes = []; escapes = n }))
  word_at h l w = leaf_at table text (rw h w) (text_none l)

  pub word_row : {s : Decoded} → leb k TRUE ≡ true → RowsAt table text r p x (leaf k a e s) → RowIs table r k 0 0 p (r + 1)
  word_row h x = rw h at (leaf_row table text x)

  -- "Other texts follow one another in row order from 0 without gaps"
  pub part_at : {n : ℕ} (y : ℕ) → leb k TRUE ≡ false → x ≤ y → y ≤ bytes_in text → RowIs table r k x y p (r + 1)
      → RowsAt table text r p x (leaf k a e (record { bytes = slice x y text; escapes = n }))
  part_at y h l m w =
      let z : x + length (slice x y text) ≡ y = omega (arith, length-slice x y text (omega arith)) in
      leaf_at table text (rw (h, z) w) (text_slice x y l m)

  pub part_row : {s : Decoded} → leb k TRUE ≡ false → RowsAt table text r p x (leaf k a e s) → RowIs table r k x (x + length s.bytes) p (r + 1)
  part_row h x = rw h at (leaf_row table text x)

  pub part_is : {s : Decoded} → RowsAt table text r p x (leaf k a e s) → s.bytes ≡ slice x (x + length s.bytes) text
  part_is h = sym (slice_text (leaf_text table text h))

  pub part_fits : {s : Decoded} → RowsAt table text r p x (leaf k a e s) → x + length s.bytes ≤ bytes_in text
  part_fits h = (leaf_text table text h).fits
