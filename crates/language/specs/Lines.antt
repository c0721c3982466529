-- LINES AND COLUMNS of places in a document (02, Ticket 8). Assumes nothing.
use Rattle.std.specs.Prelude.{List, [], ◌∷◌, ◌++◌, ℕ, suc, take}
use Rattle.notation.specs.Class.{pick, ◌to◌, Class, is, only}
use Rattle.language.specs.Tree.{Positions}

-- how many LFs there are
unfoldable pub feeds : List ℕ → ℕ
feeds [] = 0
feeds (b ∷ s) = pick (is (only 10) b) (suc (feeds s)) (feeds s)

-- "the column in characters": one of several bytes is one, so the bytes that go on with it do not count
abbrev pub tail : Class
tail = (128 to 191) ∷ []

unfoldable pub characters : List ℕ → ℕ
characters [] = 0
characters (b ∷ s) = pick (is tail b) (characters s) (suc (characters s))

-- what stands behind the last LF; l stands before
unfoldable pub last_line : List ℕ → List ℕ → List ℕ
last_line l [] = l
last_line l (b ∷ s) = pick (is (only 10) b) (last_line [] s) (last_line (l ++ b ∷ []) s)

-- "the line of its first byte, from 1": 1 and the LFs before it; "and the column in characters, from 1": 1 and the characters between the last LF before it and it
unfoldable pub line_of : List ℕ → ℕ → ℕ
line_of doc p = suc (feeds (take p doc))

unfoldable pub column_of : List ℕ → ℕ → ℕ
column_of doc p = suc (characters (last_line [] (take p doc)))

abbrev pub lines_of : List ℕ → Positions
lines_of doc = record { line = line_of doc; column = column_of doc }
