-- `left` answers as the reader of what is left of a string does. The loop's invariant: that is what stands before n, stored, and what is left from n on.
use Rattle.std.proofs.lemmas.Result.{err_from_is_err_and}
use borrow.Author.Rules.{rules}
use Rattle.strings.proofs.StringLaws.{ready_behind, special_at, strings}
use Rattle.strings.proofs.quotes.left.Goals as goal

pub returns-in-Ok : goal.returns-in-Ok
returns-in-Ok c = search strings

pub special-requires : goal.special-requires
special-requires c =
    let k = c.clean-e in
    let t = c.take in
    record { ready = (search ready_behind, search rules); special = special_at _ _ _ _ _ _ k.ensures t.result t.ensures _ c.in_default.is }

pub returns-in_err-n : goal.returns-in_err-n
returns-in_err-n c =
    let p = err_from_is_err_and c.from_residual.result c.from_residual.ensures.1 in
    rw (p.1, p.2) (search (strings, c.in_err-n.was))

pub loop-m-smaller : goal.loop-m-smaller
loop-m-smaller c = search (strings, c.in_ok-n.was)

pub loop-m-preserved : goal.loop-m-preserved
loop-m-preserved c = (search (strings, c.in_ok-n.was), search rules)
