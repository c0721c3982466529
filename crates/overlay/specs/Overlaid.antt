-- WHAT THE OVERLAY OF TWO TABLES PROMISES (02, Ticket 7). Assumes nothing.
use Rattle.std.specs.Prelude.{◌≡◌, true, List, ◌++◌, ℕ, ◌*◌, ◌≤◌, ◌<◌, length, drop, Result, Ok, Err}
use Rattle.language.specs.Tree.{Tree, width, unlined, size, text_of, rows_of}
use Rattle.language.specs.Answered.{ROWS, TEXT, BADROW}
use Rattle.language.specs.Lent.{words_in, bytes_in}
use Rattle.language.specs.Sound.{Holds}
use Rattle.overlay.specs.declared.Filled.{Filled}
use Rattle.overlay.specs.declared.OverlayRefusal.{OverlayRefusal}
use Rattle.overlay.specs.declared.OverlayRefusal.TheVariants.{BadRow, Clash, TooFew, TooShort}
use Rattle.overlay.specs.Overlay.{is_object, Laid, laid, clash, overlay}

-- "number 16, CLASH"
abbrev pub CLASH : ℕ
CLASH = 16

-- the number and the two values of each answer of `overlay`
abbrev pub gave_number : Result Filled OverlayRefusal → ℕ
gave_number (Ok d) = 0
gave_number (Err BadRow) = BADROW
gave_number (Err Clash) = CLASH
gave_number (Err (TooFew rows)) = ROWS
gave_number (Err (TooShort bytes)) = TEXT

abbrev pub gave_first : Result Filled OverlayRefusal → ℕ
gave_first (Ok d) = d.rows
gave_first (Err BadRow) = 0
gave_first (Err Clash) = 0
gave_first (Err (TooFew rows)) = rows
gave_first (Err (TooShort bytes)) = bytes

abbrev pub gave_second : Result Filled OverlayRefusal → ℕ
gave_second (Ok d) = d.bytes
gave_second (Err r) = 0

-- a sound table whose root is an object, and its tree
pub record HoldsObject (table : List ℕ) (rows : ℕ) (text : List ℕ) (t : Tree) : Type 0 where
  pub holds : Holds table rows text t
  pub object : is_object t ≡ true

-- THE TARGETS, for what two trees give: the table and the text room as they were lent; the number, the two values beside it, and both rooms afterwards.
-- "on refusal the targets too" stay unchanged
pub data Given (table text : List ℕ) : Laid → ℕ → ℕ → ℕ → List ℕ → List ℕ → Type 0 where
  -- the rows and the text of the tree, and what the rooms held behind them; "an overlay's result" holds 0 for lines and columns (02, Ticket 8)
  fits : (t : Tree) → width * size t ≤ words_in table → length (text_of t) ≤ bytes_in text
      → Given
      table
      text
      (laid t)
      0
      (size t)
      (length (text_of t))
      (rows_of unlined 0 0 0 t ++ drop (width * size t) table)
      (text_of t ++ drop (length (text_of t)) text)
  -- "CLASH, place 0"
  clashed : Given table text clash CLASH 0 0 table text
  -- "ROWS and TEXT come last, with the need"
  rows : (t : Tree) → words_in table < width * size t → Given table text (laid t) ROWS (size t) 0 table text
  bytes : (t : Tree) → width * size t ≤ words_in table → bytes_in text < length (text_of t) → Given table text (laid t) TEXT (length (text_of t)) 0 table text

-- THE PROMISE: the lower's table, rows and text room, and the upper's, which "stay unchanged"; the targets as they were lent; the number, the two values, and the targets afterwards
pub data Overlaid (lower : List ℕ) (lowerRows : ℕ) (lowerText upper : List ℕ) (upperRows : ℕ) (upperText table text : List ℕ) : ℕ → ℕ → ℕ → List ℕ → List ℕ → Type 0 where
  -- "Two sound tables whose roots are objects give a third in other lent rooms"
  gives : {n v s : ℕ} {table' text' : List ℕ} (t u : Tree) → HoldsObject lower lowerRows lowerText t → HoldsObject upper upperRows upperText u
      → Given table text (overlay t u) n v s table' text' → Overlaid lower lowerRows lowerText upper upperRows upperText table text n v s table' text'
  -- "A root that isn't an object, or a table that isn't sound, is BADROW, before CLASH"
  bad_lower : ((t : Tree) → HoldsObject lower lowerRows lowerText t → ⊥) → Overlaid lower lowerRows lowerText upper upperRows upperText table text BADROW 0 0 table text
  bad_upper : ((u : Tree) → HoldsObject upper upperRows upperText u → ⊥) → Overlaid lower lowerRows lowerText upper upperRows upperText table text BADROW 0 0 table text
