-- `comments` passes the comments that a document begins with.
use Rattle.std.proofs.lemmas.Result.{err_from_is_err_and}
use Rattle.judge.proofs.Documents.{head_start, heading}
use Rattle.judge.proofs.whole.comments.Goals as goal

pub loop-c-init : goal.loop-c-init
loop-c-init c = head_start _

pub returns-in_err-comment_line : goal.returns-in_err-comment_line
returns-in_err-comment_line c =
    let p = err_from_is_err_and c.from_residual.result c.from_residual.ensures.1 in
    rw (p.1, p.2) (search (c.in_err-comment_line.was, heading))
