-- `held_short` tests bytes that one field holds.
use Rattle.load.specs.Testing.{short_bad}
use Rattle.load.proofs.held_short.Goals as goal

pub returns-in_err-t : goal.returns-in_err-t
returns-in_err-t c = rw c.from_residual.ensures (short_bad _ c.requires _ c.value.ensures c.in_err-t.was)
