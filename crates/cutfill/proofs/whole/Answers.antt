-- `whole` tells the fields that stand whole before the nearest cut.
use Rattle.cutfill.proofs.Laws.{near_run}
use Rattle.cutfill.proofs.whole.Goals as goal

pub returns : goal.returns
returns c = near_run c.near-w.ensures c.whole_end.ensures
