-- `probed` seeks each key of the other object in the window. The loop's invariant: each key of the window has its match among those sought, or none there.
use mathlib.Core.Path.{◌≡◌}
use Prim.Native.Nat.{◌-◌}
use lib.ListN.{length}
use Rattle.lay.specs.Windows.{Probing}
use Rattle.lay.proofs.windows.probed.Given as goal

abbrev pub invariant-loop-r : goal.invariant-loop-r
invariant-loop-r l = Probing l.text l.froms l.tos l.n l.other.rows.now l.other.text.now l.from l.stop l.marks l.r × (length l.marks ≡ length l.initial.marks)

abbrev pub decreases-loop-r : goal.decreases-loop-r
decreases-loop-r l = l.stop - l.r
