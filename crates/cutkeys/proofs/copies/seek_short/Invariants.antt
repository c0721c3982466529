-- `seek_short` passes keys that stand whole or are long. The loop's invariant: the first short one that is cut is the first from p on, and the key there stands where it is said to.
use Prim.Native.Nat.{◌-◌}
use Rattle.cutkeys.specs.Shorts.{SeekingShort}
use Rattle.cutkeys.specs.Content.{RunAt}
use Rattle.cutkeys.proofs.copies.seek_short.Given as goal

abbrev pub invariant-loop-p : goal.invariant-loop-p
invariant-loop-p l = SeekingShort l.v.stored.now l.v.starts.now l.v.d l.v.n l.from l.p × RunAt l.v l.p l.here

abbrev pub decreases-loop-p : goal.decreases-loop-p
decreases-loop-p l = l.v.n - l.p
