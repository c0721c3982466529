-- `run_key` tells what stands first in a run.
use Rattle.cutvalues.proofs.RunLaws.{run_movable}
use Rattle.cutvalues.proofs.runs.run_key.Goals as goal

pub moved-requires : goal.moved-requires
moved-requires c = run_movable _ c.requires.0 _ _ _ c.requires.1 c.key.ensures
