-- `line_end` meets its contract.
use Rattle.judge.proofs.Looking.{ending}
use Rattle.judge.proofs.look.line_end.Goals as goal

pub returns-then-root : goal.returns-then-root
returns-then-root c = search ending

pub returns-in_err-optional_comment : goal.returns-in_err-optional_comment
returns-in_err-optional_comment c = search ending

pub returns : goal.returns
returns c = search ending
