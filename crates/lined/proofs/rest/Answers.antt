-- `rest` finds the next byte of a range. The loop's invariant: none stands up to a. Assumes nothing.
use Rattle.lined.specs.Counted.{range, hit_one}
use Rattle.lined.specs.Searching.{clear_first, clear_byte, next_here, next_all}
use lib.ListN.{get_or}
use native.Mathlib.Omega.{arith}
use Rattle.lined.proofs.rest.Goals as goal

pub loop-a-init : goal.loop-a-init
loop-a-init g c = clear_first (range g.row.LO g.row.HI) c.args.doc.now c.args.at (omega arith)

pub returns-then-hit-eq1 : goal.returns-then-hit-eq1
returns-then-hit-eq1 g c =
    let s = c.args in
    let l = c.loop-a in
    next_here (range g.row.LO g.row.HI) s.doc.now s.end s.at l.a c.hit.result l.invariant c.hit.ensures (omega arith)

pub loop-a-preserved : goal.loop-a-preserved
loop-a-preserved g c =
    let s = c.args in
    let l = c.loop-a in
    clear_byte (range g.row.LO g.row.HI) s.doc.now s.at l.a c.hit.result l.invariant (omega arith) c.hit.ensures (omega (arith, hit_one (range g.row.LO g.row.HI) (get_or s.doc.now l.a 0)))

pub returns : goal.returns
returns g c =
    let s = c.args in
    let l = c.loop-a in
    next_all (range g.row.LO g.row.HI) s.doc.now s.end s.at l.a l.invariant (omega arith) (omega arith)
