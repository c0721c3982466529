-- `pass` meets its contract: comments, the root, and blank lines up to the end.
use Rattle.judge.proofs.Documents.{passing}
use Rattle.judge.proofs.NotingWhole.{pass_noting}
use Rattle.judge.proofs.whole.pass.Goals as goal

pub root-requires : goal.root-requires
root-requires c = search passing

pub returns-in_err-at : goal.returns-in_err-at
returns-in_err-at c = record { checked = search (c.in_err-at.was, passing); filled = search (c.in_err-at.was, passing); logged = search (c.in_err-at.was, pass_noting) }

pub returns-in_err-n : goal.returns-in_err-n
returns-in_err-n c = record { checked = search (c.in_ok-at.was, c.in_err-n.was, passing); filled = search (c.in_ok-at.was, c.in_err-n.was, passing); logged = search (c.in_ok-at.was, c.in_err-n.was, pass_noting) }

pub returns : goal.returns
returns c = record { checked = search (c.in_ok-at.was, c.in_ok-n.was, passing); filled = search (c.in_ok-at.was, c.in_ok-n.was, passing); logged = search (c.in_ok-at.was, c.in_ok-n.was, pass_noting) }
