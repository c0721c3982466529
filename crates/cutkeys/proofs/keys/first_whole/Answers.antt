-- `first_whole` is where the first key that stands whole is found.
use Rattle.cutkeys.specs.Runs.{run_none}
use Rattle.cutkeys.proofs.keys.first_whole.Goals as goal

pub seek-requires : goal.seek-requires
seek-requires c = (c.requires, run_none _ _ _ _ _)

pub returns-in-Some : goal.returns-in-Some
returns-in-Some c = rw c.in-Some.is at c.seek.ensures.is

pub returns-in-None : goal.returns-in-None
returns-in-None c = rw c.in-None.is at c.seek.ensures.is
