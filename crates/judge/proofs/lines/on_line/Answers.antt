-- `on_line` meets its contract: the first byte decides.
use Rattle.judge.proofs.Lining.{choosing}
use Rattle.judge.proofs.Noting.{choice_noting}
use Rattle.judge.proofs.lines.on_line.Goals as goal

pub returns-in-96 : goal.returns-in-96
returns-in-96 c = record { blocks = search choosing; notes = search choice_noting }

pub returns-in-62 : goal.returns-in-62
returns-in-62 c = record { blocks = search choosing; notes = search choice_noting }

pub returns-in_default : goal.returns-in_default
returns-in_default c = record { blocks = search choosing; notes = search choice_noting }
