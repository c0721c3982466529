-- WHAT LOADING PROMISES (02, Ticket 4, mended by Ticket 11). Assumes nothing.
use Rattle.std.specs.Prelude.{◌≡◌, List, ◌++◌, ℕ, ◌*◌, ◌≤◌, ◌<◌, length, drop, Result, Ok, Err}
use Rattle.stored.specs.declared.Loaded.{Loaded}
use Rattle.stored.specs.declared.LoadRefusal.{LoadRefusal}
use Rattle.stored.specs.declared.LoadRefusal.TheVariants.{BadForm, Rows, Text}
use Rattle.language.specs.Tree.{Tree, width, unlined, size, text_of, rows_of}
use Rattle.language.specs.Answered.{ROWS, TEXT}
use Rattle.language.specs.Lent.{lent, words_in, bytes_in}
use Rattle.language.specs.Sound.{Holds}
use Rattle.stored.specs.Form.{form, loaded}

-- "Number 13, BADFORM, place 0"
abbrev pub BADFORM : ℕ
BADFORM = 13

-- the number and the values of each answer of `load`, "for each of its cases" (01): rows and text bytes; rows or text bytes needed, and 0; or the place 0, and 0
abbrev pub loading_number : Result Loaded LoadRefusal → ℕ
loading_number (Ok d) = 0
loading_number (Err BadForm) = BADFORM
loading_number (Err (Rows rows)) = ROWS
loading_number (Err (Text bytes)) = TEXT

abbrev pub loading_value : Result Loaded LoadRefusal → ℕ
loading_value (Ok d) = d.rows.0
loading_value (Err BadForm) = 0
loading_value (Err (Rows rows)) = rows.0
loading_value (Err (Text bytes)) = bytes

abbrev pub loading_second : Result Loaded LoadRefusal → ℕ
loading_second (Ok d) = d.bytes
loading_second (Err r) = 0

-- the bytes are a "sound table's stored form": some table holds the tree, and it is stored as these bytes. "A stored file over 16,777,216 bytes is BADFORM" (Ticket 11)
pub record Kept (stored : List ℕ) (t : Tree) : Type 0 where
  pub table : List ℕ
  pub rows : ℕ
  pub text : List ℕ
  pub holds : Holds table rows text t
  pub bytes : form t ≡ stored
  pub few : length stored ≤ lent

-- THE PROMISE OF `load`: the stored bytes; table and text room as they were lent; the number and its two values; table and text room afterwards. "All refusals leave table and text room unchanged" (01)
pub data Loads (stored table text : List ℕ) : ℕ → ℕ → ℕ → List ℕ → List ℕ → Type 0 where
  -- the rows and the text of the tree that the bytes hold, with 0 for line and column ("A stored form read back .. hold 0 in both", Ticket 8); "words and bytes past the counts keep what they held" (01)
  loads : (t : Tree) → Kept stored t → width * size t ≤ words_in table → length (text_of t) ≤ bytes_in text
      → Loads
      stored
      table
      text
      0
      (size t)
      (length (text_of t))
      (rows_of unlined 0 0 0 (loaded t) ++ drop (width * size t) table)
      (text_of t ++ drop (length (text_of t)) text)
  -- "exactly if the bytes are no sound table's stored form"
  bad_form : ((t : Tree) → Kept stored t → ⊥) → Loads stored table text BADFORM 0 0 table text
  -- "ROWS and TEXT follow as in 01": the rows' words exceed "the words lent", a row being nine (Ticket 8), or the "text needed exceeds the bytes lent"
  rows : (t : Tree) → Kept stored t → words_in table < width * size t → Loads stored table text ROWS (size t) 0 table text
  bytes : (t : Tree) → Kept stored t → width * size t ≤ words_in table → bytes_in text < length (text_of t)
      → Loads stored table text TEXT (length (text_of t)) 0 table text
