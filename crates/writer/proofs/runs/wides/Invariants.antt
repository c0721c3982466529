-- `wides` passes the characters of several bytes that are shown as they are.
use Prim.Native.Nat.{◌-◌}
use lib.ListN.{length}
use Rattle.writer.specs.Runs.{Selfs}
use Rattle.writer.proofs.runs.wides.Given as goal

abbrev pub invariant-loop-e : goal.invariant-loop-e
invariant-loop-e l = Selfs l.s l.at l.e

abbrev pub decreases-loop-e : goal.decreases-loop-e
decreases-loop-e l = length l.s - l.e
