-- `in_order` tells where a text belongs. The loop's invariant: behind the first lo, and before those from hi on.
use Prim.Native.Nat.{◌-◌}
use Rattle.repeats.specs.Sorted.{Sought}
use lib.Seq.{slice}
use Rattle.distinct.specs.Names.{spelt}
use Rattle.distinct.proofs.ranks.in_order.Given as goal

abbrev pub invariant-loop-lo : goal.invariant-loop-lo
invariant-loop-lo l = Sought (spelt l.text l.froms l.tos) (slice l.b l.f l.words) l.order l.n l.lo l.hi

abbrev pub decreases-loop-lo : goal.decreases-loop-lo
decreases-loop-lo l = l.hi - l.lo
