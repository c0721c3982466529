-- `some_pairs` meets its contract. The loop's invariant: the pairs up to n are read.
use Rattle.std.proofs.lemmas.Result.{err_from_is_err_and}
use borrow.Author.Rules.{rules}
use Rattle.strings.proofs.PairsLaws.{pairing_on, pairs_turn, pairs_digit}
use Rattle.strings.proofs.hex.some_pairs.Goals as goal

pub returns-in_err-m : goal.returns-in_err-m
returns-in_err-m c =
    let p = err_from_is_err_and c.from_residual.result c.from_residual.ensures.1 in
    rw (p.1, p.2) (search (pairing_on, c.in_err-m.was))

pub returns-in-Err : goal.returns-in-Err
returns-in-Err c = search (pairing_on, c.in_ok-m.was)

pub loop-m-smaller : goal.loop-m-smaller
loop-m-smaller c = search (pairing_on, c.in_ok-m.was)

pub loop-m-preserved : goal.loop-m-preserved
loop-m-preserved c = (search (pairs_turn, c.in_ok-m.was), search rules, search (pairs_digit, c.in_ok-m.was))
