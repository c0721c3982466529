-- `last` finds the last LF in a block. The loop's invariant: it stands just before the m-th, among those up to i. Assumes nothing.
use native.Mathlib.Omega.{arith}
use Rattle.lined.specs.Counted.{range}
use Rattle.lined.specs.Searching.{last_none, last_byte, last_all}
use Rattle.lined.proofs.last.Goals as goal

pub loop-i-init : goal.loop-i-init
loop-i-init c = last_none (range 10 10) c.args.doc.now c.args.a

pub loop-i-preserved : goal.loop-i-preserved
loop-i-preserved c =
    let s = c.args in
    let l = c.loop-i in
    last_byte (range 10 10) s.doc.now s.a l.i l.m c.spot.result c.max-m.result l.invariant (omega arith) c.spot.ensures c.max-m.ensures

pub returns : goal.returns
returns c = let l = c.loop-i in last_all (range 10 10) c.args.doc.now c.args.a l.i l.m l.invariant (omega arith) (omega arith)
