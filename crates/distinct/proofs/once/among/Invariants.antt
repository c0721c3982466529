-- `among` tells whether a key has a text. The loop's invariant: one has it exactly if one from here on has.
use Prim.Native.Nat.{◌-◌}
use Rattle.std.proofs.Math.Seq.{slice}
use Rattle.distinct.specs.Roads.{Among}
use Rattle.distinct.specs.Windows.{Going}
use Rattle.distinct.proofs.once.among.Given as goal

abbrev pub invariant-loop-r : goal.invariant-loop-r
invariant-loop-r g l = Going (g.K.Keys.road l.keys l.text l.stop) (Among (g.K.Keys.road l.keys l.text l.stop).text (slice l.b l.f l.text)) l.from l.r

abbrev pub decreases-loop-r : goal.decreases-loop-r
decreases-loop-r g l = l.stop - l.r
