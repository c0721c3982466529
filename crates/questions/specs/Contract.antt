-- WHAT THE INNER FUNCTIONS PROMISE EACH OTHER. No promise of a question rests on these. Assumes nothing.
use Rattle.std.specs.Prelude.{◌≡◌, true, false, List, ℕ, ◌+◌, ◌*◌, ◌≤◌, ◌<◌, length, Option, Some, None, Result, Ok, Err}
use Rattle.std.specs.Borrow.{Bor}
use Rattle.language.specs.Tree.{width}
use Rattle.questions.specs.declared.BadRow.{BadRow}
use Rattle.questions.specs.Table.{readable}
use Rattle.questions.specs.Text.{part}
use Rattle.questions.specs.Walk.{paired}

-- a whole row's word, which is there to be read
pub record Held (table : List ℕ) (r k : ℕ) : Type 0 where
  pub whole : width * (r + 1) ≤ length table
  pub one : k < width

module _ (table : List ℕ) (R : ℕ) (room : List ℕ) (r : ℕ) where
  -- a row's text that can be read, and that it is this part of the room
  pub record Part (t : List ℕ) : Type 0 where
    pub read : readable table R room r ≡ true
    pub is : t ≡ part table room r

  abbrev pub TextIn : Option (Bor (List ℕ)) → Type 0
  TextIn (Some t) = Part t.now
  TextIn None = readable table R room r ≡ false

  -- a key's text, where a pair can stand
  abbrev pub KeyAt : Result (Bor (List ℕ)) BadRow → Type 0
  KeyAt (Ok t) = (paired table R room r ≡ true) × (t.now ≡ part table room r)
  KeyAt (Err _) = paired table R room r ≡ false
