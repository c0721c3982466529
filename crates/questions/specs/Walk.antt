-- FINDING A KEY IN AN OBJECT ROW (01, Questions). Assumes nothing.
use Rattle.std.specs.Prelude.{◌≡◌, Bool, true, false, ◌&&◌, List, ℕ, ◌+◌, ◌≤◌, ◌<◌, eqb, leb, ltb, Option, Some, None, Result, Ok, Err}
use Rattle.language.specs.Kind.{OBJECT, KEY}
use Rattle.language.specs.declared.Row.{Row}
use Rattle.questions.specs.declared.BadRow.{BadRow}
use Rattle.questions.specs.Number.{BADROW, NONE}
use Rattle.questions.specs.Table.{good, readable, kind, next}
use Rattle.questions.specs.Text.{part}

-- a number of 01, and the row that answers or the number's place
pub record Reply : Type 0 where
  pub number : ℕ
  pub value : ℕ

abbrev pub answer : ℕ → Reply
answer row = record { number = 0; value = row }

abbrev pub refusal : ℕ → Reply
refusal n = record { number = n; value = 0 }

-- what `find` answers
abbrev pub Found : Type 0
Found = Result (Option Row) BadRow

abbrev pub bad_row : Found
bad_row = Err (record {})

-- the number and the value of each answer of `find`
abbrev pub found_reply : Found → Reply
found_reply (Ok (Some row)) = answer row.0
found_reply (Ok None) = refusal NONE
found_reply (Err _) = refusal BADROW

-- "first a key row, good, of kind 10 and with readable text; then the next row, which must be good"
unfoldable pub paired : List ℕ → ℕ → List ℕ → ℕ → Bool
paired table R room at = readable table R room at && (eqb (kind table at) KEY && good table R (at + 1))

-- "its seventh word, which must exceed its row number and not exceed the object's seventh word"
unfoldable pub onward : List ℕ → ℕ → ℕ → Bool
onward table stop value = ltb value (next table value) && leb (next table value) stop

-- the walk that stands at row `at`, in an object whose seventh word is `stop`
pub data Walk (table : List ℕ) (R : ℕ) (room key : List ℕ) (stop : ℕ) : ℕ → Reply → Type 0 where
  -- "the walk's end is NONE"
  ends : {at : ℕ} → stop ≤ at → Walk table R room key stop at (refusal NONE)
  -- "any defect met before .. is BADROW"
  breaks : {at : ℕ} → at < stop → paired table R room at ≡ false → Walk table R room key stop at (refusal BADROW)
  -- "If the keys are equal, that row is the answer"
  matches : {at : ℕ} → at < stop → paired table R room at ≡ true → part table room at ≡ key
      → Walk table R room key stop at (answer (at + 1))
  -- a defect in the word that would lead on
  strays : {at : ℕ} → at < stop → paired table R room at ≡ true → (part table room at ≡ key → ⊥)
      → onward table stop (at + 1) ≡ false → Walk table R room key stop at (refusal BADROW)
  -- "otherwise the walk goes on to its seventh word"
  goes : {at : ℕ} {reply : Reply} → at < stop → paired table R room at ≡ true → (part table room at ≡ key → ⊥)
      → onward table stop (at + 1) ≡ true → Walk table R room key stop (next table (at + 1)) reply
      → Walk table R room key stop at reply

-- a good row of kind 9
unfoldable pub object : List ℕ → ℕ → ℕ → Bool
object table R r = good table R r && eqb (kind table r) OBJECT

-- "walks from r+1 while below that row's seventh word"; "a bad object row, or one of another kind than 9, is BADROW"
pub data Finds (table : List ℕ) (R : ℕ) (room key : List ℕ) (r : ℕ) : Reply → Type 0 where
  refused : object table R r ≡ false → Finds table R room key r (refusal BADROW)
  walked : {reply : Reply} → object table R r ≡ true → Walk table R room key (next table r) (r + 1) reply
      → Finds table R room key r reply
