-- `first` finds the first byte of a range in a block. The loop's invariant: m is where, among those up to i. Assumes nothing.
use Rattle.lined.specs.Counted.{range}
use Rattle.lined.specs.Searching.{First}
use Rattle.lined.proofs.first.Given as goal

abbrev pub invariant-loop-i : goal.invariant-loop-i
invariant-loop-i g l = First (range g.row.LO g.row.HI) l.doc l.a l.i l.m
