-- `several` passes members, until no whole one stands there.
use Prim.Native.Nat.{◌-◌}
use lib.ListN.{length}
use Rattle.cutvalues.proofs.RunLaws.{Going}
use Rattle.cutvalues.proofs.runs.several.Given as goal

abbrev pub invariant-loop-at : goal.invariant-loop-at
invariant-loop-at l = Going l.run l.object l.allow l.at l.members l.rows

abbrev pub decreases-loop-at : goal.decreases-loop-at
decreases-loop-at l = length l.run - l.at
