-- `next` finds the next byte of a range, by blocks. The loop's invariant: none stands up to a. Assumes nothing.
use Prim.Native.Nat.{◌-◌}
use Rattle.lined.specs.Counted.{range}
use Rattle.lined.specs.Searching.{Clear}
use Rattle.lined.proofs.next.Given as goal

abbrev pub invariant-loop-a : goal.invariant-loop-a
invariant-loop-a g l = Clear (range g.row.LO g.row.HI) l.doc l.at l.a

abbrev pub decreases-loop-a : goal.decreases-loop-a
decreases-loop-a g l = l.end - l.a
