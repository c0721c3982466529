-- ROWS OF ANY LENT TABLE (01, What the reader takes and gives; Questions). Assumes nothing.
use Rattle.std.specs.Prelude.{Bool, ◌&&◌, List, ℕ, ◌+◌, ◌*◌, get_or, leb, ltb}
use Rattle.language.specs.Kind.{has_text}
use Rattle.language.specs.Tree.{width}
use Rattle.language.specs.Lent.{words_in, bytes_in}

-- word k of row r
unfoldable pub word : List ℕ → ℕ → ℕ → ℕ
word table r k = get_or table (width * r + k) 0

-- "kind; first byte of the span; byte after it; text start; text end; parent row; row after the last descendant"
abbrev pub kind : List ℕ → ℕ → ℕ
kind table r = word table r 0

abbrev pub start : List ℕ → ℕ → ℕ
start table r = word table r 3

abbrev pub end : List ℕ → ℕ → ℕ
end table r = word table r 4

abbrev pub next : List ℕ → ℕ → ℕ
next table r = word table r 6

-- "Row r is bad if r is not below R or seven times (r+1) exceeds the words" (Questions); nine times, since "a row is nine words" (02, Ticket 8), and of the words that the table counts for (02, Ticket 1)
unfoldable pub good : List ℕ → ℕ → ℕ → Bool
good table R r = ltb r R && leb (width * (r + 1)) (words_in table)

-- "BADROW exactly if r is bad, the kind is another, or start ≤ end ≤ the room's length fails" (Questions), of the bytes that the room counts for
unfoldable pub readable : List ℕ → ℕ → List ℕ → ℕ → Bool
readable table R room r =
    good table R r && (has_text (kind table r) && (leb (start table r) (end table r) && leb (end table r) (bytes_in room)))
