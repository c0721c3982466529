-- `some` counts bytes of a range among the first n. The loop's invariant: those up to i, or n, are counted. Assumes nothing.
use Prim.Native.Nat.{◌+◌, min}
use Rattle.lined.specs.Counted.{range}
use Rattle.lined.specs.Searching.{Counting}
use Rattle.lined.proofs.some.Given as goal

abbrev pub invariant-loop-i : goal.invariant-loop-i
invariant-loop-i g l = Counting (range g.row.LO g.row.HI) l.doc l.a (l.a + min l.i l.n) l.m
