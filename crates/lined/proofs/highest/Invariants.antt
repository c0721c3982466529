-- `highest` finds the most of some bytes. The loop's invariant: below 128 it is the most of no tail byte. Assumes nothing.
use Prim.Native.Nat.{◌<◌}
use Rattle.lined.specs.Counted.{range}
use Rattle.lined.specs.Searching.{Clear}
use Rattle.lined.proofs.highest.Given as goal

abbrev pub invariant-loop-i : goal.invariant-loop-i
invariant-loop-i l = l.m < 128 → Clear (range 128 191) l.doc 0 l.i
