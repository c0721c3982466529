-- `rest_apart` seeks each key that is cut and not in the window. The loop's invariant: all are alone exactly if those from p on are, and the one at p stands where it is said to.
use Prim.Native.Nat.{◌-◌}
use Rattle.distinct.specs.Windows.{Going}
use Rattle.cutkeys.specs.CutsWindow.{RestAlone}
use Rattle.cutkeys.specs.Content.{keys_of, RunAt}
use Rattle.cutkeys.proofs.cuts.rest_apart.Given as goal

abbrev pub invariant-loop-p : goal.invariant-loop-p
invariant-loop-p l = Going (keys_of l.v) (RestAlone l.v.stored.now l.v.starts.now l.v.d l.v.n l.next) 0 l.p × RunAt l.v l.p l.here

abbrev pub decreases-loop-p : goal.decreases-loop-p
decreases-loop-p l = l.v.n - l.p
