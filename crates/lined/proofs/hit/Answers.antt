-- `hit` tells a byte of a range by two tests. Assumes nothing.
use native.Mathlib.Omega.{arith}
use Rattle.lined.specs.Counted.{hit_below, hit_above, hit_within}
use Rattle.lined.proofs.hit.Goals as goal
use Rattle.lined.proofs.hit.Goals.{else-b-via-then-b+else-b-2, else-b-via-else-b}

pub returns-then-b-2 : goal.returns-then-b-2
returns-then-b-2 g c = hit_within g.row.LO g.row.HI c.args.b c.if-b.true c.if-b-2.true

pub returns-else-b : goal.returns-else-b
returns-else-b g c = elim c.else-b.branch [
  | else-b-via-then-b+else-b-2 w ↦ hit_above g.row.LO g.row.HI c.args.b (omega arith)
  | else-b-via-else-b w ↦ hit_below g.row.LO g.row.HI c.args.b (omega arith)
]
