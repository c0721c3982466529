-- THE ROWS OF LEAVES, AS THE QUESTIONS SEE THEM: where a leaf with a text stands in a row, the row is readable, and its text is the leaf's. Assumes nothing.
use Rattle.std.specs.Prelude.{◌≡◌, Bool, true, false, ◌&&◌, List, ℕ, ◌+◌, ◌-◌, ◌*◌, ◌≤◌, ◌<◌, leb}
use Rattle.std.proofs.Math.Path.{ap}
use Rattle.std.proofs.Common.{lt-ltb, le-leb}
use native.Mathlib.Omega.{arith}
use Rattle.std.proofs.Math.ListN.{length, get_or}
use Rattle.language.specs.Kind.{TRUE, has_text}
use Rattle.language.specs.Tree.{Decoded, leaf, width}
use Rattle.language.specs.Lent.{words_in, bytes_in}
use Rattle.questions.specs.Table.{word, good, readable}
use Rattle.questions.specs.Text.{part, text_of}
use Rattle.shaped.specs.RowIs.{RowIs}
use Rattle.shaped.specs.RowsAt.{RowsAt, leaf_text}
use Rattle.shaped.specs.Leaves.{part_row}

pub both : {a b : Bool} → a ≡ true → b ≡ true → (a && b) ≡ true
both h k = rw (h, k)

module _ (table : List ℕ) (rows : ℕ) (text : List ℕ) (fits : width * rows ≤ words_in table) where
  pub good_row : (r : ℕ) → r < rows → good table rows r ≡ true
  unfolding good
  good_row r h = both (lt-ltb r rows h) (le-leb (width * (r + 1)) (words_in table) (omega arith))

  -- the first word of a row
  pub kind_word : (r : ℕ) → word table r 0 ≡ get_or table (width * r) 0
  unfolding word
  kind_word r = ap (λ (i : ℕ). get_or table i 0) (let e : width * r + 0 ≡ width * r = omega arith in e)

  module _ {r p x k a e : ℕ} {s : Decoded} (texts : has_text k ≡ true) (late : leb k TRUE ≡ false) (below : r < rows) (h : RowsAt table text r p x (leaf k a e s)) where
    row : RowIs table r k x (x + length s.bytes) p (r + 1)
    row = part_row table text late h

    start_is : word table r 3 ≡ x
    unfolding word
    start_is = row.from_is

    end_is : word table r 4 ≡ x + length s.bytes
    unfolding word
    end_is = row.to_is

    pub leaf_readable : readable table rows text r ≡ true
    unfolding readable
    leaf_readable =
        let f = (leaf_text table text h).fits in
        rw (kind_word r, row.kind_is, start_is, end_is)
        (both (good_row r below) (both texts (both (le-leb x (x + length s.bytes) (omega arith)) (le-leb (x + length s.bytes) (bytes_in text) f))))

    pub leaf_part : part table text r ≡ s.bytes
    unfolding part
    leaf_part =
        let z : x + length s.bytes - x ≡ length s.bytes = omega arith in
        rw (start_is, end_is, z) (leaf_text table text h).is

    pub leaf_answers : text_of table rows text r ≡ s.bytes
    unfolding text_of
    leaf_answers = rw leaf_readable leaf_part
