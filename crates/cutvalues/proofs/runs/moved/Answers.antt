-- `moved` tells what was tested from 0 on as it stands from a place on.
use Rattle.cutvalues.proofs.RunLaws.{moved_bad}
use Rattle.cutvalues.proofs.runs.moved.Goals as goal

pub returns-in_err-t : goal.returns-in_err-t
returns-in_err-t c = rw c.from_residual.ensures (moved_bad _ _ c.in_err-t.was)
