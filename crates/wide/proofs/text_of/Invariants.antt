-- `text_of` copies a content, run after run.
use Rattle.wide.specs.Copies.{Copying}
use Prim.Native.Nat.{◌-◌}
use Rattle.wide.proofs.text_of.Given as goal

abbrev pub invariant-loop-i : goal.invariant-loop-i
invariant-loop-i l = Copying l.v.stored.now l.v.starts.now l.v.d l.v.n l.x l.i l.initial.text l.text

abbrev pub decreases-loop-i : goal.decreases-loop-i
decreases-loop-i l = l.v.n - l.i
