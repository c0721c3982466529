-- `near_ascii` passes bytes below 128. The loop's invariant: they are whole characters.
use Prim.Native.Nat.{◌-◌}
use lib.ListN.{length}
use Rattle.texts.specs.Whole.{Plainly}
use Rattle.texts.proofs.script.near_ascii.Given as goal

abbrev pub invariant-loop-i : goal.invariant-loop-i
invariant-loop-i l = Plainly l.run l.at l.i

abbrev pub decreases-loop-i : goal.decreases-loop-i
decreases-loop-i l = length l.run - l.i
