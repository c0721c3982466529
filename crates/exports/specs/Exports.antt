-- WHAT THE C FUNCTIONS PROMISE: a number of document 01, 0 for none, and the values put where they are told. `yay_read` promises `Answered` itself, of its number and
-- its first two values, and `Totals`, of its number and its third. Assumes nothing.
use Rattle.std.specs.Prelude.{◌≡◌, List, ℕ, ℤ}
use Rattle.language.specs.Kind.{pick}
use Rattle.questions.specs.Table.{start, end, readable}
use Rattle.questions.specs.Text.{text_number}
use Rattle.questions.specs.Walk.{Reply, Finds}
use Rattle.integers.specs.Order.{Verdict, compared}

-- `yay_find`: the number of finding a key in an object row, and the row that answers, or 0
abbrev pub FoundAt : List ℕ → ℕ → List ℕ → ℕ → List ℕ → ℕ → ℕ → Type 0
FoundAt table rows room r key n v = Finds table rows room key r (record { number = n; value = v })

-- `yay_compare`: the number of comparing two integer texts, and -1, 0 or 1, or 0
abbrev pub ComparedTo : List ℕ → List ℕ → ℕ → ℤ → Type 0
ComparedTo left right n v = compared left right ≡ record { number = n; value = v }

-- `yay_text`: the number of a row's text, and where it starts and ends in the room, or 0 and 0
pub record TextAt (table : List ℕ) (R : ℕ) (room : List ℕ) (r n from to : ℕ) : Type 0 where
  pub number_is : n ≡ text_number table R room r
  pub from_is : from ≡ pick (readable table R room r) (start table r) 0
  pub to_is : to ≡ pick (readable table R room r) (end table r) 0
