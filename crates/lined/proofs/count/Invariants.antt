-- `count` counts bytes of a range by blocks. The loop's invariant: those up to i are counted. Assumes nothing.
use Rattle.lined.specs.Searching.{Counting}
use Prim.Native.Nat.{◌-◌, ◌≤◌}
use Rattle.lined.specs.Counted.{range}
use Rattle.lined.proofs.count.Given as goal

abbrev pub invariant-loop-i : goal.invariant-loop-i
invariant-loop-i g l = Counting (range g.row.LO g.row.HI) l.doc l.a l.i l.n × (l.i ≤ l.e)

abbrev pub decreases-loop-i : goal.decreases-loop-i
decreases-loop-i g l = l.e - l.i
