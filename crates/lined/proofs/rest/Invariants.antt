-- `rest` finds the next byte of a range. The loop's invariant: none stands up to a. Assumes nothing.
use Rattle.lined.specs.Searching.{Clear}
use Rattle.lined.specs.Counted.{range}
use Rattle.lined.proofs.rest.Given as goal

abbrev pub invariant-loop-a : goal.invariant-loop-a
invariant-loop-a g l = Clear (range g.row.LO g.row.HI) l.doc l.at l.a
