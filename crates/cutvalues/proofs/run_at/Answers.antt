-- `run_at` gives the bytes before the nearest cut.
use Rattle.cutvalues.proofs.CutLaws.{run_stands}
use Rattle.cutvalues.proofs.run_at.Goals as goal

pub returns : goal.returns
returns c = run_stands c.near-r.ensures
