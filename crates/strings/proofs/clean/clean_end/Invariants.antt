-- `clean_end` answers the place behind what stands as it is. The loop's invariant: what stands behind the plain bytes up to n does so.
use Prim.Native.Nat.{◌-◌}
use lib.ListN.{length}
use Rattle.strings.specs.Inside.{CleanUpto}
use Rattle.strings.proofs.clean.clean_end.Given as goal

abbrev pub invariant-loop-m : goal.invariant-loop-m
invariant-loop-m l = CleanUpto l.quote l.doc l.initial.n.at l.n.at

abbrev pub decreases-loop-m : goal.decreases-loop-m
decreases-loop-m l = length l.doc - l.n.at
