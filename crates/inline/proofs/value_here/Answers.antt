-- `value_here` answers as the reader of a value on a line does.
use Rattle.std.proofs.lemmas.Result.{err_from_is_err_and}
use Rattle.inline.proofs.Choices.{lining}
use Rattle.inline.proofs.Noting.{noting_line}
use Rattle.inline.proofs.value_here.Goals as goal

pub returns-in_err-n-clause-reaches : goal.returns-in_err-n-clause-reaches
returns-in_err-n-clause-reaches c =
    let p = err_from_is_err_and c.from_residual.result c.from_residual.ensures.1 in
    rw (p.1, p.2) (search (lining, c.in_err-n.was))

pub returns-in_err-n-clause-notes : goal.returns-in_err-n-clause-notes
returns-in_err-n-clause-notes c = search noting_line

pub returns-then-marked-clause-reaches : goal.returns-then-marked-clause-reaches
returns-then-marked-clause-reaches c = search (lining, c.in_ok-n.was)

pub returns-then-marked-clause-notes : goal.returns-then-marked-clause-notes
returns-then-marked-clause-notes c = search noting_line

pub plain-requires : goal.plain-requires
plain-requires c = search lining

pub returns : goal.returns
returns c = record { reaches = rw c.anew_far.ensures (search lining); notes = search noting_line }
