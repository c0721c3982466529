-- `run` passes the characters that are shown as they are.
use Rattle.writer.specs.Runs.{selfs_then}
use borrow.Author.Rules.{rules}
use native.Mathlib.Omega.{arith}
use Rattle.writer.proofs.runs.run.Goals as goal

pub loop-e-init : goal.loop-e-init
loop-e-init c = c.plain_end-e.ensures

pub wides-n-requires : goal.wides-n-requires
wides-n-requires c = (c.loop-e.invariant.script c.requires.0, search rules)

pub loop-e-smaller : goal.loop-e-smaller
loop-e-smaller c = omega (arith, c.wides-n.ensures.from, c.plain_end-e-in-loop-e.ensures.from, c.if-n-e.false)

pub loop-e-preserved : goal.loop-e-preserved
loop-e-preserved c = selfs_then c.loop-e.invariant (selfs_then c.wides-n.ensures c.plain_end-e-in-loop-e.ensures)
