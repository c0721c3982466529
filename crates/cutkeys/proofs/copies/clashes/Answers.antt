-- `clashes` tells what clashes with a key of the window.
use Rattle.cutkeys.specs.CutsWindow.{clash_ok}
use Rattle.cutkeys.proofs.copies.clashes.Goals as goal

pub returns-in-Ok : goal.returns-in-Ok
returns-in-Ok c = clash_ok _ _ _ _ _ c.first_whole-p.ensures _ _ _ _ _ c.by_chains.ensures _ c.in-Ok.is
