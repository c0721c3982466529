-- `few` counts bytes of a range. The loop's invariant: those up to i are counted. Assumes nothing.
use Rattle.lined.specs.Counted.{range}
use Rattle.lined.specs.Searching.{Counting}
use Prim.Native.Nat.{◌+◌}
use Rattle.lined.proofs.few.Given as goal

abbrev pub invariant-loop-i : goal.invariant-loop-i
invariant-loop-i g l = Counting (range g.row.LO g.row.HI) l.doc l.a (l.a + l.i) l.m
