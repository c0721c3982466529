-- `held_long` tests bytes that are in parts.
use Rattle.load.specs.Testing.{long_content, long_bad}
use Rattle.load.proofs.held_long.Goals as goal

pub invariant_of-v : goal.invariant_of-v
invariant_of-v c = record { content = long_content _ c.requires _ }

pub returns-in_err-w : goal.returns-in_err-w
returns-in_err-w c = rw c.from_residual.ensures (long_bad _ c.requires _ _ c.value.ensures c.in_err-w.was)
