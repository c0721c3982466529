-- `letter` answers what stands behind a backslash.
use Rattle.writer.specs.Codes.{letter_none}
use native.Mathlib.Omega.{arith}
use Rattle.writer.proofs.codes.letter.Goals as goal

pub returns-in_default : goal.returns-in_default
returns-in_default c =
    letter_none _ (λ e. omega arith) (λ e. omega arith) (λ e. omega arith) (λ e. omega arith) (λ e. omega arith) (λ e. omega arith) (λ e. omega arith)
