-- `characters` passes the characters that stand whole in the run. Assumes nothing.
use Rattle.texts.specs.Whole.{run_behind}
use Rattle.texts.proofs.script.characters.Goals as goal

pub returns-then-n-run : goal.returns-then-n-run
returns-then-n-run g c = run_behind c.run-run.ensures c.near_characters.ensures

pub returns : goal.returns
returns g c = run_behind c.run-run.ensures c.near_ascii-n.ensures.whole
