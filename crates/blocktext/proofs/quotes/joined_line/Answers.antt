-- `joined_line` meets its contract.
use Rattle.std.proofs.lemmas.Result.{err_from_is_err_and}
use Rattle.blocktext.proofs.JoinedLaws.{one_line}
use Rattle.blocktext.proofs.quotes.joined_line.Goals as goal

pub returns-in_err-n : goal.returns-in_err-n
returns-in_err-n c =
    let p = err_from_is_err_and c.from_residual.result c.from_residual.ensures.1 in
    rw (p.1, p.2) (search (one_line, c.in_err-n.was))

pub returns-in_err-take : goal.returns-in_err-take
returns-in_err-take c =
    let p = err_from_is_err_and c.from_residual-in_err-take.result c.from_residual-in_err-take.ensures.1 in
    rw (p.1, p.2) (search (one_line, c.in_ok-n.was, c.in_err-take.was))

pub returns : goal.returns
returns c = search (one_line, c.in_ok-n.was, c.in_ok-take.was)
