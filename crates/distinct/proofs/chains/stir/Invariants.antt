-- `stir` gives the number that picks a chain. The loop's invariant: it is that of the bytes passed.
use Rattle.distinct.specs.Chains.{Stirring}
use Rattle.distinct.proofs.chains.stir.Given as goal

abbrev pub invariant-loop-i : goal.invariant-loop-i
invariant-loop-i l = Stirring l.text l.a l.e l.i l.h
