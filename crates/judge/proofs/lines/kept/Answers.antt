-- `kept` meets its contract.
use Rattle.judge.proofs.Lining.{keeping}
use Rattle.judge.proofs.lines.kept.Goals as goal

pub returns-in-Ok : goal.returns-in-Ok
returns-in-Ok c = search keeping

pub returns-in-Err : goal.returns-in-Err
returns-in-Err c = search keeping
