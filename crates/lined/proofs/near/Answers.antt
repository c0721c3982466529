-- `near` finds the least key. The loop's invariant: no LF stands before the least of those up to i. Assumes nothing.
use native.Mathlib.Omega.{arith}
use Rattle.lined.specs.Searching.{near_none, near_byte, near_all}
use Rattle.lined.proofs.near.Goals as goal

pub loop-i-init : goal.loop-i-init
loop-i-init c = near_none c.args.doc.now c.args.a 255

pub loop-i-preserved : goal.loop-i-preserved
loop-i-preserved c =
    let s = c.args in
    let l = c.loop-i in
    near_byte s.doc.now s.a l.i l.m c.key.result c.min-m.result l.invariant (omega arith) c.key.ensures c.min-m.ensures

pub returns : goal.returns
returns c = let l = c.loop-i in near_all c.args.doc.now c.args.a l.i l.m l.invariant (omega arith) (omega arith)
