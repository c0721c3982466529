-- `spaced_group` meets its contract: runs of digits are passed as long as a gap stands between them.
use Prim.Native.Nat.{◌-◌}
use lib.ListN.{length}
use Rattle.numbers.proofs.DigitLaws.{Going}
use Rattle.numbers.proofs.digits.spaced_group.Given as goal

abbrev pub invariant-loop-at : goal.invariant-loop-at
invariant-loop-at l = Going l.doc l.fn.r.at l.end.at l.dense

abbrev pub decreases-loop-at : goal.decreases-loop-at
decreases-loop-at l = length l.doc - l.end.at
