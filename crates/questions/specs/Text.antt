-- A ROW'S TEXT, AS TWO QUESTIONS (01, Questions). Assumes nothing.
use Rattle.std.specs.Prelude.{List, [], ℕ, ◌-◌, take, drop}
use Rattle.language.specs.Kind.{pick}
use Rattle.questions.specs.Number.{BADROW}
use Rattle.questions.specs.Table.{readable, start, end}

-- the bytes of the room from the row's text start up to its text end
unfoldable pub part : List ℕ → List ℕ → ℕ → List ℕ
part table room r = take (end table r - start table r) (drop (start table r) room)

-- "the number, 0 or BADROW"
unfoldable pub text_number : List ℕ → ℕ → List ℕ → ℕ → ℕ
text_number table R room r = pick (readable table R room r) 0 BADROW

-- "the text, a part of the lent text room, not a copy, and empty where the number is BADROW"
unfoldable pub text_of : List ℕ → ℕ → List ℕ → ℕ → List ℕ
text_of table R room r = pick (readable table R room r) (part table room r) []
