-- `whole` meets its contract: digits, and the byte behind them says what follows.
use native.Mathlib.Omega.{arith}
use borrow.Author.Rules.{rules}
use Rattle.numbers.proofs.TakeLaws.{passed, passed_behind}
use Rattle.numbers.proofs.scanning.whole.Goals as goal

pub pointed-requires : goal.pointed-requires
pointed-requires c = passed _ _ 46 (omega arith) _ c.take.ensures _ (search rules)

pub exponent-requires : goal.exponent-requires
exponent-requires c = passed_behind _ _ 101 (omega arith) _ c.take-in-Err.ensures _ (search rules)
