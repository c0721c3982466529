-- `few` counts bytes of a range. The loop's invariant: those up to i are counted. Assumes nothing.
use native.Mathlib.Omega.{arith}
use lib.ListN.{get_or}
use Prim.Native.Nat.{◌+◌}
use Rattle.lined.specs.Counted.{hit_one, range}
use Rattle.lined.specs.Searching.{counting_none, counting_byte, counting_all}
use Rattle.lined.proofs.few.Goals as goal

pub loop-i-init : goal.loop-i-init
loop-i-init g c = counting_none (range g.row.LO g.row.HI) c.args.doc.now c.args.a (omega arith)

pub overflow_add-m : goal.overflow_add-m
overflow_add-m g c = omega (arith, hit_one (range g.row.LO g.row.HI) (get_or c.args.doc.now (c.args.a + c.loop-i.i) 0))

pub loop-i-preserved : goal.loop-i-preserved
loop-i-preserved g c =
    let l = c.loop-i in
    counting_byte (range g.row.LO g.row.HI) c.args.doc.now c.args.a l.i l.m c.hit-m.result l.invariant (omega arith) c.hit-m.ensures

pub returns : goal.returns
returns g c =
    let l = c.loop-i in
    counting_all (range g.row.LO g.row.HI) c.args.doc.now c.args.a l.i c.args.n l.m l.invariant (omega arith) (omega arith)
