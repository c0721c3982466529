-- `value_line` meets its contract: a value, and the end of its line.
use Rattle.judge.proofs.Lining.{lining}
use Rattle.judge.proofs.Noting.{line_noting}
use Rattle.judge.proofs.lines.value_line.Goals as goal

pub line_end-requires : goal.line_end-requires
line_end-requires c = search lining

pub returns-in_err-n : goal.returns-in_err-n
returns-in_err-n c = record { blocks = search lining; notes = search line_noting }

pub returns-in-Err : goal.returns-in-Err
returns-in-Err c = record { blocks = search lining; notes = search line_noting }

pub returns-in-Ok : goal.returns-in-Ok
returns-in-Ok c = record { blocks = search lining; notes = search line_noting }
