-- `plain_near` passes plain bytes, one at a time.
use Rattle.characters.specs.Plains.{double}
use Rattle.writer.specs.Runs.{selfs_more}
use native.Mathlib.Omega.{arith}
use Rattle.writer.proofs.runs.plain_near.Goals as goal

pub is_plain-requires : goal.is_plain-requires
is_plain-requires c = double

pub loop-e-preserved : goal.loop-e-preserved
loop-e-preserved c = selfs_more c.loop-e.invariant (omega arith) c.is_plain.ensures c.if-not-is_plain.false
