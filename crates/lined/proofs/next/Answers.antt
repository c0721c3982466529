-- `next` finds the next byte of a range, by blocks. The loop's invariant: none stands up to a. Assumes nothing.
use native.Mathlib.Omega.{arith}
use Rattle.lined.specs.Counted.{range}
use Rattle.lined.specs.Searching.{clear_first, first_found, first_past, next_behind, next_end}
use Rattle.lined.proofs.next.Goals as goal

pub loop-a-init : goal.loop-a-init
loop-a-init g c = clear_first (range g.row.LO g.row.HI) c.args.doc.now c.args.at (omega arith)

pub returns-then-doc-a-lt64 : goal.returns-then-doc-a-lt64
returns-then-doc-a-lt64 g c =
    let s = c.args in
    let l = c.loop-a in
    next_behind (range g.row.LO g.row.HI) s.doc.now s.end s.at l.a c.rest.result l.invariant c.rest.ensures

pub returns-then-k-lt64 : goal.returns-then-k-lt64
returns-then-k-lt64 g c =
    let s = c.args in
    let l = c.loop-a in
    let f = c.first-k in
    first_found (range g.row.LO g.row.HI) s.doc.now s.end s.at l.a f.result l.invariant (omega arith) f.ensures c.if-k-lt64.true

pub loop-a-preserved : goal.loop-a-preserved
loop-a-preserved g c =
    let s = c.args in
    let l = c.loop-a in
    let f = c.first-k in
    first_past (range g.row.LO g.row.HI) s.doc.now s.at l.a f.result l.invariant (omega arith) f.ensures c.if-k-lt64.false

pub returns : goal.returns
returns g c = next_end (range g.row.LO g.row.HI) c.args.doc.now c.args.end c.args.at c.loop-a.a c.loop-a.invariant c.loop-a-test.false
