-- WHAT THE WRITER AND THE TEST OF SOUNDNESS PROMISE (02, Ticket 1). Assumes nothing.
use Rattle.std.specs.Prelude.{List, ◌++◌, ℕ, ◌≤◌, ◌<◌, length, drop, Result, Ok, Err}
use Rattle.language.specs.declared.WriteRefusal.{WriteRefusal}
use Rattle.language.specs.declared.WriteRefusal.TheVariants.{BadRow, TooLong, TooShort}
use Rattle.language.specs.Tree.{Tree}
use Rattle.language.specs.Answered.{limit, LONG, TEXT, BADROW}
use Rattle.language.specs.Lent.{bytes_in}
use Rattle.language.specs.Sound.{Holds, Sound}
use Rattle.language.specs.House.{house}

-- what `write` answers
abbrev pub Wrote : Type 0
Wrote = Result ℕ WriteRefusal

-- the number and the count of each answer of `write`
abbrev pub wrote_number : Wrote → ℕ
wrote_number (Ok n) = 0
wrote_number (Err BadRow) = BADROW
wrote_number (Err TooLong) = LONG
wrote_number (Err (TooShort n)) = TEXT

abbrev pub wrote_count : Wrote → ℕ
wrote_count (Ok n) = n
wrote_count (Err BadRow) = 0
wrote_count (Err TooLong) = 0
wrote_count (Err (TooShort n)) = n

-- THE PROMISE OF `sound`: 0, or BADROW
pub data Sounded (table : List ℕ) (rows : ℕ) (text : List ℕ) : ℕ → Type 0 where
  is_sound : Sound table rows text → Sounded table rows text 0
  unsound : (Sound table rows text → ⊥) → Sounded table rows text BADROW

-- THE PROMISE OF THE WRITER: the rooms lent to be read; the output as it was lent; the number, the count beside it, and the output afterwards.
-- Of a refusal: "nothing is written then"
pub data Written (table : List ℕ) (rows : ℕ) (text out : List ℕ) : ℕ → ℕ → List ℕ → Type 0 where
  -- the bytes, and what the output held behind them
  fits : (t : Tree) → Holds table rows text t → length (house t) ≤ limit → length (house t) ≤ bytes_in out
      → Written table rows text out 0 (length (house t)) (house t ++ drop (length (house t)) out)
  -- "A table that isn't sound is BADROW, tested first"
  bad : (Sound table rows text → ⊥) → Written table rows text out BADROW 0 out
  -- "Written bytes over" the limit "are refused as LONG", "the writer's LONG read with the new limit" (Ticket 11)
  long : (t : Tree) → Holds table rows text t → limit < length (house t) → Written table rows text out LONG 0 out
  -- "a lent output too short as TEXT with the bytes needed"
  needs : (t : Tree) → Holds table rows text t → length (house t) ≤ limit → bytes_in out < length (house t)
      → Written table rows text out TEXT (length (house t)) out
