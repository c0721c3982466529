-- `whole_end` goes from head to head.
use Prim.Native.Nat.{◌-◌}
use lib.ListN.{length}
use Rattle.cutfill.specs.Wholes.{Chain}
use Rattle.cutfill.proofs.whole_end.Given as goal

abbrev pub invariant-loop-e : goal.invariant-loop-e
invariant-loop-e l = Chain l.run l.e

abbrev pub decreases-loop-e : goal.decreases-loop-e
decreases-loop-e l = length l.run - l.e
