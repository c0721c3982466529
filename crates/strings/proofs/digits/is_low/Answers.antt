-- `is_low` answers whether a byte is a lowercase hex digit.
use native.Mathlib.Omega.{arith}
use Rattle.strings.proofs.DigitLaws.{low_bit}
use Rattle.strings.proofs.digits.is_low.Goals as goal

pub returns-then-b-le102 : goal.returns-then-b-le102
returns-then-b-le102 c = low_bit c.args.b (omega arith) (omega arith)
