-- `chained_behind` seeks the keys behind a window in it. The loop's invariant: one is there exactly if one from here on is.
use Prim.Native.Nat.{◌-◌}
use Rattle.distinct.specs.Window.{Touched}
use Rattle.distinct.specs.Windows.{Going}
use Rattle.distinct.proofs.windows.chained_behind.Given as goal

abbrev pub invariant-loop-r : goal.invariant-loop-r
invariant-loop-r g l = Going (g.K.Keys.road l.keys l.text l.stop) (Touched (g.K.Keys.road l.keys l.text l.stop) l.text l.froms l.tos l.n) l.from l.r

abbrev pub decreases-loop-r : goal.decreases-loop-r
decreases-loop-r g l = l.stop - l.r
