-- `enclose` meets its contract: the words of a block's row.
use Rattle.judge.proofs.Lining.{keeping}
use Rattle.judge.proofs.lines.enclose.Goals as goal

pub returns : goal.returns
returns c = search keeping
