-- `extent` passes parts, until an end stands there.
use Prim.Native.Nat.{◌-◌}
use Rattle.views.specs.Spans.{Going}
use Rattle.views.proofs.parts.extent.Given as goal

abbrev pub invariant-loop-p : goal.invariant-loop-p
invariant-loop-p l = Going l.v.stored.now l.v.starts.now l.v.d l.at l.v.n l.p l.n

abbrev pub decreases-loop-p : goal.decreases-loop-p
decreases-loop-p l = l.v.n - l.p
