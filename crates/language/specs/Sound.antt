-- SOUND TABLES (02, Ticket 1): what a table, a count of rows and a text room hold. It is not said how that is tested. Assumes nothing.
use Rattle.std.specs.Prelude.{◌≡◌, true, List, [], ◌∷◌, ℕ, ◌+◌, ◌*◌, ◌≤◌, ◌<◌, length, get_or, take}
use Rattle.notation.specs.Class.{◌to◌, Class, is}
use Rattle.language.specs.Tree.{Tree, width, unlined, size, text_of, rows_of, Once}
use Rattle.language.specs.Document.{Document}
use Rattle.language.specs.Answered.{deepest}
use Rattle.language.specs.Lent.{words_in, bytes_in}

-- "the tree of some document of any length, with at most 32 nested containers and no repeated key"
pub record Profile (t : Tree) : Type 0 where
  pub document : List ℕ
  pub word : Document deepest document t
  pub once : Once t

-- "spans aside": the words of a row that are asked are its kind, text start, text end, parent and next row, and neither its span nor its line and column
abbrev pub asked : Class
asked = (0 to 0) ∷ (3 to 6) ∷ []

-- the rows and the text of the tree stand in the rooms; what is behind them is passed over. The rooms count for "at most 16,777,216 rows and text bytes"
pub record Holds (table : List ℕ) (rows : ℕ) (text : List ℕ) (t : Tree) : Type 0 where
  pub profile : Profile t
  pub count : size t ≡ rows
  pub rows_fit : width * rows ≤ words_in table
  pub row : (r j : ℕ) → r < rows → is asked j ≡ true → get_or table (width * r + j) 0 ≡ get_or (rows_of unlined 0 0 0 t) (width * r + j) 0
  pub text_fits : length (text_of t) ≤ bytes_in text
  pub text_is : take (length (text_of t)) text ≡ text_of t

-- "A table is sound if, spans aside, the tree of some document .. gives it"
pub record Sound (table : List ℕ) (rows : ℕ) (text : List ℕ) : Type 0 where
  pub tree : Tree
  pub holds : Holds table rows text tree
