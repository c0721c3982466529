-- `wide` copies a character of several bytes.
use Rattle.std.proofs.lemmas.Result.{err_from_is_err_and}
use Rattle.strings.proofs.SpecialLaws.{specials}
use Rattle.strings.proofs.quotes.wide.Goals as goal

pub returns-in_err-v : goal.returns-in_err-v
returns-in_err-v c =
    let p = err_from_is_err_and c.from_residual.result c.from_residual.ensures.1 in
    rw (p.1, p.2) (search (specials, c.in_err-v.was))

pub returns-then-v-lt128 : goal.returns-then-v-lt128
returns-then-v-lt128 c = search (specials, c.in_ok-v.was)

pub returns : goal.returns
returns c = search (specials, c.in_ok-v.was)
