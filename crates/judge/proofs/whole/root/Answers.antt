-- `root` meets its contract: how it begins decides.
use Rattle.judge.proofs.Documents.{rooting}
use Rattle.judge.proofs.NotingWhole.{root_noting}
use Rattle.judge.proofs.whole.root.Goals as goal

pub returns-then-allow-eq0 : goal.returns-then-allow-eq0
returns-then-allow-eq0 c = record { blocks = search rooting; notes = search root_noting }

pub returns-in-Dash : goal.returns-in-Dash
returns-in-Dash c = record { blocks = search rooting; notes = search root_noting }

pub returns-in-Key : goal.returns-in-Key
returns-in-Key c = record { blocks = search rooting; notes = search root_noting }

pub returns-in-Line : goal.returns-in-Line
returns-in-Line c = record { blocks = search rooting; notes = search root_noting }
