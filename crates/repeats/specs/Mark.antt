-- THE MARK OF A KEY, over its decoded bytes: a cheap first test before bytes are compared. Assumes nothing.
use Rattle.std.specs.Prelude.{◌≡◌, List, [], ◌∷◌, ℕ, ◌+◌, ◌%◌}
use Rattle.std.proofs.Common.{ap}

-- "from 0, for every byte, twice the mark so far plus that byte, wrapping" (02, Ticket 5)
abbrev pub marked : ℕ → ℕ → ℕ
marked h b = ((h + h) % 4294967296 + b) % 4294967296

unfoldable pub mark_from : ℕ → List ℕ → ℕ
mark_from h [] = h
mark_from h (b ∷ s) = mark_from (marked h b) s

abbrev pub mark : List ℕ → ℕ
mark s = mark_from 0 s

-- EQUAL KEYS HAVE EQUAL MARKS
pub same_mark : (s t : List ℕ) → s ≡ t → mark s ≡ mark t
same_mark s t e = ap mark e
