-- `some` counts bytes of a range among the first n. The loop's invariant: those up to i, or n, are counted. Assumes nothing.
use native.Mathlib.Omega.{arith}
use Rattle.lined.specs.Counted.{range}
use Rattle.lined.specs.Searching.{some_none, some_byte, some_all}
use Rattle.lined.proofs.some.Goals as goal

pub loop-i-init : goal.loop-i-init
loop-i-init g c = some_none (range g.row.LO g.row.HI) c.args.doc.now c.args.a c.args.n (omega arith)

pub loop-i-preserved : goal.loop-i-preserved
loop-i-preserved g c =
    let s = c.args in
    let l = c.loop-i in
    some_byte (range g.row.LO g.row.HI) s.doc.now s.a s.n l.i l.m c.hit.result c.max.result c.min-m.result l.invariant (omega arith) c.hit.ensures c.max.ensures c.min-m.ensures

pub returns : goal.returns
returns g c =
    let s = c.before in
    let l = c.loop-i in
    some_all (range g.row.LO g.row.HI) s.args.doc.now s.args.a s.args.n l.i l.m l.invariant s.requires.1 (omega arith)
