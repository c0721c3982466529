-- WHAT A LENT ROOM COUNTS FOR (02, Ticket 1), in every public entry. Assumes nothing.
use Rattle.std.specs.Prelude.{List, ℕ, ◌*◌, min, length}
use Rattle.language.specs.Tree.{width}

-- "at most 16,777,216 rows and text bytes; from here on a lent room counts for no more than that"
abbrev pub lent : ℕ
lent = 16777216

-- the words of a lent table that count, and the bytes of a lent text room or output
abbrev pub words_in : List ℕ → ℕ
words_in table = min (length table) (width * lent)

abbrev pub bytes_in : List ℕ → ℕ
bytes_in room = min (length room) lent
