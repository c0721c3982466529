-- `marked` tells the row that a word of the marks says.
use mathlib.Core.Path.{sym}
use native.Mathlib.Omega.{arith}
use Rattle.lay.specs.Matching.{row_none, row_some}
use Rattle.lay.proofs.matched.marked.Goals as goal

pub returns-in-0 : goal.returns-in-0
returns-in-0 c = sym (row_none (omega arith))

pub returns-in_default : goal.returns-in_default
returns-in_default c = sym (row_some (λ e. omega arith))
