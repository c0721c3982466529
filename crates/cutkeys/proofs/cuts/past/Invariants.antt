-- `past` passes keys whose texts differ. The loop's invariant: those before i do.
use Prim.Native.Nat.{◌-◌}
use lib.ListN.{length}
use Rattle.cutkeys.specs.CutsPast.{Passes}
use Rattle.cutkeys.proofs.cuts.past.Given as goal

abbrev pub invariant-loop-i : goal.invariant-loop-i
invariant-loop-i l = Passes l.s l.last (length l.last) l.n l.i

abbrev pub decreases-loop-i : goal.decreases-loop-i
decreases-loop-i l = length l.s - l.i
