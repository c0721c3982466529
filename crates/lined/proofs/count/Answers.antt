-- `count` counts bytes of a range by blocks. The loop's invariant: those up to i are counted. Assumes nothing.
use native.Mathlib.Omega.{arith}
use Rattle.lined.specs.Counted.{range}
use Rattle.lined.specs.Searching.{counting_first, counting_block, searching}
use Rattle.lined.proofs.count.Goals as goal

pub loop-i-init : goal.loop-i-init
loop-i-init g c = (counting_first (range g.row.LO g.row.HI) c.args.doc.now c.args.a (omega arith), omega arith)

pub overflow_add-n : goal.overflow_add-n
overflow_add-n g c = search searching

pub loop-i-preserved : goal.loop-i-preserved
loop-i-preserved g c =
    let s = c.args in
    let l = c.loop-i in
    (counting_block (range g.row.LO g.row.HI) s.doc.now s.a l.i 64 l.n c.few.result l.invariant.0 (omega arith) c.few.ensures, omega arith)

pub overflow_add-result : goal.overflow_add-result
overflow_add-result g c = search searching

pub returns : goal.returns
returns g c = search searching
