-- `key_row` meets its contract: the key's own row, in its place.
use Rattle.judge.proofs.Lining.{keying}
use Rattle.judge.proofs.lines.key_row.Goals as goal

pub row_of-w-requires : goal.row_of-w-requires
row_of-w-requires c = search keying

pub returns-in_err-n : goal.returns-in_err-n
returns-in_err-n c = search keying

pub returns : goal.returns
returns c = search keying
