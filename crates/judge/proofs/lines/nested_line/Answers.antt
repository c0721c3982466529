-- `nested_line` meets its contract: the first byte decides.
use Rattle.judge.proofs.Lining.{choosing}
use Rattle.judge.proofs.lines.nested_line.Goals as goal

pub returns-then-look-eq96 : goal.returns-then-look-eq96
returns-then-look-eq96 c = search choosing

pub returns : goal.returns
returns c = search choosing
