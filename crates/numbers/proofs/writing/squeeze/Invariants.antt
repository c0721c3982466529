-- `squeeze` meets its contract. Assumes nothing.
use Rattle.numbers.proofs.TextLaws.{Squeezing}
use Rattle.numbers.proofs.writing.squeeze.Given as goal

abbrev pub invariant-loop-i : goal.invariant-loop-i
invariant-loop-i l = Squeezing l.doc l.a l.e l.x l.initial.text l.text l.to l.i
