-- `put_line` meets its contract.
use Rattle.blocktext.proofs.PutLaws.{putting_line}
use Rattle.blocktext.proofs.body.put_line.Goals as goal

pub line_end-e-requires : goal.line_end-e-requires
line_end-e-requires c = search putting_line

pub copy-requires : goal.copy-requires
copy-requires c = search putting_line

pub overflow_sub-e : goal.overflow_sub-e
overflow_sub-e c = search putting_line

pub overflow_sub-result : goal.overflow_sub-result
overflow_sub-result c = search putting_line
