-- `nonzero` meets its contract. Assumes nothing.
use Rattle.numbers.proofs.TextLaws.{Skipping}
use Rattle.numbers.proofs.writing.nonzero.Given as goal

abbrev pub invariant-loop-z : goal.invariant-loop-z
invariant-loop-z l = Skipping l.doc l.d l.e l.z
