-- `back` goes back to an LF. The loop's invariant: none stands from i on. Assumes nothing.
use native.Mathlib.Omega.{arith}
use Rattle.lined.specs.Counted.{range}
use Rattle.lined.specs.Between.{between_none}
use Rattle.lined.specs.Searching.{back_at, back_not, back_first}
use Rattle.lined.proofs.back.Goals as goal

pub loop-i-init : goal.loop-i-init
loop-i-init c = (between_none (range 10 10) c.args.doc.now c.args.e, omega arith)

pub returns-then-doc-i-eq10 : goal.returns-then-doc-i-eq10
returns-then-doc-i-eq10 c =
    let s = c.args in
    let l = c.loop-i in
    back_at s.doc.now s.a s.e l.i l.invariant.1 (omega arith) l.invariant.0 c.if-doc-i-eq10.true

pub loop-i-preserved : goal.loop-i-preserved
loop-i-preserved c =
    let s = c.args in
    let l = c.loop-i in
    (back_not s.doc.now s.e l.i (omega arith) (omega arith) (omega arith) l.invariant.0 c.if-doc-i-eq10.false, omega arith)

pub returns : goal.returns
returns c =
    let s = c.before in
    let l = c.loop-i in
    back_first s.args.doc.now s.args.a s.args.e l.i l.invariant.1 (omega arith) (omega arith) l.invariant.0 s.requires.2
