-- `near_ascii` passes bytes below 128. Assumes nothing.
use native.Mathlib.Omega.{arith}
use Rattle.texts.specs.Whole.{plainly_more}
use Rattle.texts.proofs.script.near_ascii.Goals as goal

pub loop-i-preserved : goal.loop-i-preserved
loop-i-preserved c = plainly_more _ _ _ c.loop-i.invariant c.loop-i-test.true (omega arith)
