-- `windows` tells whether no two keys have one text. The loop's invariant: none have exactly if none from here on have.
use Prim.Native.Nat.{◌-◌}
use Rattle.distinct.specs.Roads.{Apart}
use Rattle.distinct.specs.Windows.{Going}
use Rattle.distinct.proofs.windows.windows.Given as goal

abbrev pub invariant-loop-r : goal.invariant-loop-r
invariant-loop-r g l = Going (g.K.Keys.road l.keys l.text l.stop) (Apart (g.K.Keys.road l.keys l.text l.stop).text) l.from l.r

abbrev pub decreases-loop-r : goal.decreases-loop-r
decreases-loop-r g l = l.stop - l.r
