-- `first` finds the first byte of a range in a block. The loop's invariant: m is where, among those up to i. Assumes nothing.
use native.Mathlib.Omega.{arith}
use Rattle.lined.specs.Counted.{range}
use Rattle.lined.specs.Searching.{first_none, first_byte, first_all}
use Rattle.lined.proofs.first.Goals as goal

pub loop-i-init : goal.loop-i-init
loop-i-init g c = first_none (range g.row.LO g.row.HI) c.args.doc.now c.args.a

pub loop-i-preserved : goal.loop-i-preserved
loop-i-preserved g c =
    let s = c.args in
    let l = c.loop-i in
    first_byte (range g.row.LO g.row.HI) s.doc.now s.a l.i l.m c.spot.result c.min-m.result l.invariant (omega arith) (omega arith) c.spot.ensures c.min-m.ensures

pub returns : goal.returns
returns g c =
    let l = c.loop-i in
    first_all (range g.row.LO g.row.HI) c.args.doc.now c.args.a l.i l.m l.invariant (omega arith) (omega arith)
