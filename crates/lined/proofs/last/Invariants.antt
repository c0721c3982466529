-- `last` finds the last LF in a block. The loop's invariant: it stands just before the m-th, among those up to i. Assumes nothing.
use Rattle.lined.specs.Counted.{range}
use Rattle.lined.specs.Searching.{Last}
use Rattle.lined.proofs.last.Given as goal

abbrev pub invariant-loop-i : goal.invariant-loop-i
invariant-loop-i l = Last (range 10 10) l.doc l.a l.i l.m
