-- `plain_blocks` passes 16 plain bytes at a time.
use native.Mathlib.Omega.{arith}
use Rattle.writer.specs.Runs.{selfs_none, selfs_then, selfs_as}
use Rattle.writer.proofs.runs.plain_blocks.Goals as goal

pub loop-k-init : goal.loop-k-init
loop-k-init c = selfs_as (selfs_none c.requires) (omega arith)

pub loop-k-preserved : goal.loop-k-preserved
loop-k-preserved c = selfs_as (selfs_then c.loop-k.invariant (c.all_plain.ensures c.if-not-all_plain.false)) (omega arith)
