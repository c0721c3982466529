-- AN INTEGER'S TEXT, AND THE INTEGER IT DENOTES (01, What the reader takes and gives). Assumes nothing.
use Rattle.std.specs.Prelude.{Bool, true, false, ◌&&◌, List, [], ◌∷◌, ℕ, ◌+◌, ◌*◌, ◌-◌, eqb, leb, ℤ, pos, neg_ℤ}
use Rattle.language.specs.Kind.{pick}

-- the bytes `-`, `0` and `9`
abbrev pub MINUS : ℕ
MINUS = 45

abbrev pub ZERO : ℕ
ZERO = 48

abbrev pub NINE : ℕ
NINE = 57

unfoldable pub digit : ℕ → Bool
digit b = leb ZERO b && leb b NINE

unfoldable pub digits : List ℕ → Bool
digits [] = true
digits (b ∷ s) = digit b && digits s

-- "digits without leading zeros": at least one, and the first is no zero
unfoldable pub counting : List ℕ → Bool
counting [] = false
counting (b ∷ s) = leb (ZERO + 1) b && (leb b NINE && digits s)

unfoldable pub empty : List ℕ → Bool
empty [] = true
empty (b ∷ s) = false

-- "`-` if negative, then digits without leading zeros or spaces; zero is `0`"
unfoldable pub is_integer : List ℕ → Bool
is_integer [] = false
is_integer (b ∷ s) = pick (eqb b MINUS) (counting s) (pick (eqb b ZERO) (empty s) (counting (b ∷ s)))

-- the number that digits denote behind digits that denote n
unfoldable pub natural : ℕ → List ℕ → ℕ
natural n [] = n
natural n (b ∷ s) = natural (10 * n + (b - ZERO)) s

-- the integer that a text denotes
unfoldable pub integer : List ℕ → ℤ
integer [] = pos 0
integer (b ∷ s) = pick (eqb b MINUS) (neg_ℤ (pos (natural 0 s))) (pos (natural 0 (b ∷ s)))
