-- `seek` passes keys that are cut. The loop's invariant: the first whole key from here on is the first of all, and the one here stands where it is said to.
use Prim.Native.Nat.{◌-◌}
use Rattle.cutkeys.specs.Found.{Seeking}
use Rattle.cutkeys.specs.Content.{RunAt}
use Rattle.cutkeys.proofs.keys.seek.Given as goal

abbrev pub invariant-loop-p : goal.invariant-loop-p
invariant-loop-p l = Seeking l.v.stored.now l.v.starts.now l.v.d l.v.n l.from l.p × RunAt l.v l.p l.here

abbrev pub decreases-loop-p : goal.decreases-loop-p
decreases-loop-p l = l.v.n - l.p
