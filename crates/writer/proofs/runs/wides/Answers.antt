-- `wides` passes the characters of several bytes that are shown as they are.
use Rattle.writer.specs.Runs.{selfs_none, selfs_then}
use native.Mathlib.Omega.{arith}
use Rattle.writer.proofs.runs.wides.Goals as goal

pub loop-e-init : goal.loop-e-init
loop-e-init c = selfs_none c.requires.1

pub wide_end-n-requires : goal.wide_end-n-requires
wide_end-n-requires c = record { script = c.loop-e.invariant.script c.requires.0; inside = c.loop-e-test.true }

pub loop-e-smaller : goal.loop-e-smaller
loop-e-smaller c = omega (arith, c.wide_end-n.ensures.from, c.if-n-e.false)

pub loop-e-preserved : goal.loop-e-preserved
loop-e-preserved c = selfs_then c.loop-e.invariant c.wide_end-n.ensures
