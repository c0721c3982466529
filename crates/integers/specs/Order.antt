-- COMPARING TWO INTEGER TEXTS (01, Questions). Assumes nothing.
use Rattle.std.specs.Prelude.{List, ℕ, ℤ, pos, negsuc, Result, Ok, Err}
use Rattle.std.specs.Int.Signed.{lt_z}
use Rattle.language.specs.Kind.{pick}
use Rattle.std.specs.declared.cmp.Ordering.{Ordering}
use Rattle.std.specs.declared.cmp.Ordering.TheVariants.{Less, Equal, Greater}
use Rattle.integers.specs.declared.NotInt.{NotInt}
use Rattle.integers.specs.Integer.{is_integer, integer}

-- "a text compared isn't an integer's text" (01, Numbers of refusal); its place is 0
abbrev pub NOTINT : ℕ
NOTINT = 11

-- a number of 01, and -1, 0 or 1 or the number's place
pub record Verdict : Type 0 where
  pub number : ℕ
  pub value : ℤ

-- what `compare` answers
abbrev pub Compared : Type 0
Compared = Result Ordering NotInt

-- the answer where a text isn't an integer's
abbrev pub not_int : Compared
not_int = Err (record {})

-- the number and the value of each answer of `compare`
abbrev pub compared_verdict : Compared → Verdict
compared_verdict (Ok Less) = record { number = 0; value = negsuc 0 }
compared_verdict (Ok Equal) = record { number = 0; value = pos 0 }
compared_verdict (Ok Greater) = record { number = 0; value = pos 1 }
compared_verdict (Err _) = record { number = NOTINT; value = pos 0 }

-- "-1, 0 or 1 by numeric order"
unfoldable pub order_of : ℤ → ℤ → Ordering
order_of x y = pick (lt_z x y) Less (pick (lt_z y x) Greater Equal)

-- "Comparing two integer texts answers -1, 0 or 1 by numeric order; the left is tested first"
unfoldable pub compared : List ℕ → List ℕ → Verdict
compared left right =
    pick (is_integer left)
    (pick (is_integer right) (compared_verdict (Ok (order_of (integer left) (integer right)))) (compared_verdict not_int))
    (compared_verdict not_int)
