-- `gather` fills a window with the places of keys' texts. The loop's invariant: the first n stand there, and the others are those from r on.
use Prim.Native.Nat.{◌-◌}
use Rattle.std.proofs.Common.{◌≡◌, length}
use Rattle.distinct.specs.Windows.{Gathering}
use Rattle.distinct.proofs.windows.gather.Given as goal

abbrev pub invariant-loop-r : goal.invariant-loop-r
invariant-loop-r g l = Gathering (g.K.Keys.road l.keys l.text l.stop) l.text l.froms l.tos l.from l.n l.r × (length l.froms ≡ length l.initial.froms) × (length l.tos ≡ length l.initial.tos)

abbrev pub decreases-loop-r : goal.decreases-loop-r
decreases-loop-r g l = l.stop - l.r
