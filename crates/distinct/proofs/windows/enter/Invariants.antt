-- `enter` puts keys into a window and its chains as they are passed. The loop's invariant: the first n stand there, none has the text of an earlier one, and the others are those from r on.
use Prim.Native.Nat.{◌-◌}
use Rattle.std.proofs.Common.{◌≡◌, length}
use Rattle.distinct.specs.Entering.{Entering}
use Rattle.distinct.proofs.windows.enter.Given as goal

abbrev pub invariant-loop-r : goal.invariant-loop-r
invariant-loop-r g l = Entering (g.K.Keys.road l.keys l.text l.stop) l.text l.froms l.tos l.heads l.links l.from l.n l.r × (length l.froms ≡ length l.initial.froms) × (length l.tos ≡ length l.initial.tos) × (length l.heads ≡ length l.initial.heads) × (length l.links ≡ length l.initial.links)

abbrev pub decreases-loop-r : goal.decreases-loop-r
decreases-loop-r g l = l.stop - l.r
