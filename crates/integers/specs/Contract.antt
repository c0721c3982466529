-- WHAT THE INNER FUNCTIONS PROMISE EACH OTHER. The promise of `compare` does not rest on these. Assumes nothing.
use Rattle.std.specs.Prelude.{◌≡◌, true, List, ℕ, length}
use Rattle.std.specs.Ordering.{nat_cmp, ordering_then}
use Rattle.std.specs.Cmp.Lexicographic.{slice_cmp}
use Rattle.std.specs.declared.cmp.Ordering.{Ordering}
use Rattle.integers.specs.Integer.{is_integer, integer}
use Rattle.integers.specs.Order.{order_of}

-- digits without leading zeros: by length, then byte by byte
unfoldable pub by_size : List ℕ → List ℕ → Ordering
by_size a b = ordering_then (nat_cmp (length a) (length b)) (slice_cmp nat_cmp a b)

-- two integers' texts, which the code compares once both are tested
pub record Integers (left right : List ℕ) : Type 0 where
  pub on_left : is_integer left ≡ true
  pub on_right : is_integer right ≡ true

abbrev pub Ordered : List ℕ → List ℕ → Ordering → Type 0
Ordered left right r = r ≡ order_of (integer left) (integer right)
