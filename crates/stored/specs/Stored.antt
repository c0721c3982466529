-- WHAT STORING PROMISES (02, Ticket 4, mended by Ticket 11). Assumes nothing.
use Rattle.std.specs.Prelude.{List, ◌++◌, ℕ, ◌≤◌, ◌<◌, length, drop, Result, Ok, Err}
use Rattle.stored.specs.declared.StoreRefusal.{StoreRefusal}
use Rattle.stored.specs.declared.StoreRefusal.TheVariants.{BadRow, TooShort}
use Rattle.language.specs.Tree.{Tree}
use Rattle.language.specs.Answered.{TEXT, BADROW}
use Rattle.language.specs.Lent.{bytes_in}
use Rattle.language.specs.Sound.{Holds, Sound}
use Rattle.stored.specs.Form.{form}

-- the number and the count of each answer of `store`: "a definition gives this paper's number and values for each of its cases" (01). "WIDE goes away": number 12 is not used
abbrev pub storing_number : Result ℕ StoreRefusal → ℕ
storing_number (Ok n) = 0
storing_number (Err BadRow) = BADROW
storing_number (Err (TooShort n)) = TEXT

abbrev pub storing_count : Result ℕ StoreRefusal → ℕ
storing_count (Ok n) = n
storing_count (Err BadRow) = 0
storing_count (Err (TooShort n)) = n

-- THE PROMISE OF `store`: the rooms lent to be read; the output as it was lent; the number, the count beside it, and the output afterwards.
-- "storing tests BADROW, then .. TEXT, and writes nothing on refusal"
pub data Stores (table : List ℕ) (rows : ℕ) (text out : List ℕ) : ℕ → ℕ → List ℕ → Type 0 where
  -- the bytes, and what the output held behind them
  stores : (t : Tree) → Holds table rows text t → length (form t) ≤ bytes_in out → Stores table rows text out 0 (length (form t)) (form t ++ drop (length (form t)) out)
  -- "A table that isn't sound is BADROW, tested first" (Ticket 1)
  bad_row : (Sound table rows text → ⊥) → Stores table rows text out BADROW 0 out
  -- "a lent output too short as TEXT with the bytes needed" (Ticket 1); no output counts for more than 16,777,216 bytes, however many are needed (readings of Ticket 11)
  needs : (t : Tree) → Holds table rows text t → bytes_in out < length (form t) → Stores table rows text out TEXT (length (form t)) out
