-- `is_script` tells UTF-8 of scalar values. Assumes nothing.
use Rattle.texts.specs.Whole.{scripting}
use Rattle.texts.proofs.script.is_script.Goals as goal

pub returns-then-n-eq0 : goal.returns-then-n-eq0
returns-then-n-eq0 g c = search scripting

pub characters-at-requires-in-loop-at : goal.characters-at-requires-in-loop-at
characters-at-requires-in-loop-at g c = search scripting

pub loop-at-preserved : goal.loop-at-preserved
loop-at-preserved g c = search scripting

pub returns : goal.returns
returns g c = search scripting
