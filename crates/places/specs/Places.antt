-- THE KEYS NOTED, BY NUMBER: for each the row of its object and its place, as its two words have them, and its text, as it is read there. Assumes nothing.
use Rattle.std.specs.Prelude.{◌≡◌, ℕ, ◌+◌, ◌*◌, ◌<◌, ◌≤◌, List, length, slice_index}
use Rattle.std.proofs.Common.{arith}
use Rattle.language.specs.Answered.{limit}
use Rattle.notes.specs.Lie.{KeyAt}
pub use Rattle.spelt.specs.Texts.{text_in, end_in, spelled_is, ends_is, key_text, key_end, key_own}
unfoldable pub use Rattle.spelt.specs.Texts.{spelled, ends}
use Rattle.repeats.specs.Numbering.{Numbering}

-- the row of the object of the i-th key noted, and the place where it begins
unfoldable pub object_at : List ℕ → ℕ → ℕ
object_at keys i = slice_index keys (4 + 2 * i)

unfoldable pub place_at : List ℕ → ℕ → ℕ
place_at keys i = slice_index keys (4 + 2 * i + 1)

-- a word of the log is one of them
pub object_is : (keys : List ℕ) (i r : ℕ) → r ≡ slice_index keys (4 + 2 * i) → r ≡ object_at keys i
unfolding object_at
object_is keys i r e = e

pub place_is : (keys : List ℕ) (i r : ℕ) → r ≡ slice_index keys (4 + 2 * i + 1) → r ≡ place_at keys i
unfolding place_at
place_is keys i r e = e

abbrev pub place_keys : List ℕ → List ℕ → Numbering
place_keys doc keys =
    record { Key = λ i. Unit; start = λ i. place_at keys i; object = λ i. object_at keys i; text = λ i. spelled doc (place_at keys i) }

-- as many keys as are looked through at a time
abbrev pub most_keys : ℕ
most_keys = 6560

-- n keys stand at their places, one behind another
pub record Placed (doc keys : List ℕ) (n : ℕ) : Type 0 where
  pub short : length doc ≤ limit
  pub room : 4 + 2 * n ≤ length keys
  pub few : n ≤ most_keys
  pub key : (i : ℕ) → i < n → KeyAt doc (place_at keys i) (spelled doc (place_at keys i)) (ends doc (place_at keys i))
  pub order : (k i : ℕ) → k < i → i < n → ends doc (place_at keys k) ≤ place_at keys i

pub placed_first : {doc keys : List ℕ} (n i : ℕ) → Placed doc keys n → i < n → Placed doc keys (i + 1)
placed_first n i x l =
    record {
      short = x.short;
      room = omega (arith, x.room);
      few = omega (arith, x.few);
      key = λ j m. x.key j (omega arith);
      order = λ k j h m. x.order k j h (omega arith);
    }
