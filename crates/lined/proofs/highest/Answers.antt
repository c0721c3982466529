-- `highest` finds the most of some bytes. The loop's invariant: below 128 it is the most of no tail byte. Assumes nothing.
use native.Mathlib.Omega.{arith}
use Rattle.lined.specs.Searching.{low_none, low_byte, low_all}
use Rattle.lined.proofs.highest.Goals as goal

pub loop-i-init : goal.loop-i-init
loop-i-init c = low_none c.args.doc.now 0

pub loop-i-preserved : goal.loop-i-preserved
loop-i-preserved c = let l = c.loop-i in low_byte c.args.doc.now l.i l.m c.max-m.result l.invariant (omega arith) c.max-m.ensures

pub returns : goal.returns
returns c = let l = c.loop-i in low_all c.args.doc.now l.i c.args.end l.m l.invariant (omega arith) (omega arith)
