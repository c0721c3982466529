-- `angled` reads bytes in `<..>`.
use Rattle.std.proofs.lemmas.Result.{err_from_is_err_and}
use Rattle.strings.proofs.AngledLaws.{angles}
use Rattle.strings.proofs.hex.angled.Goals as goal

pub returns-in_err-m : goal.returns-in_err-m
returns-in_err-m c =
    let p = err_from_is_err_and c.from_residual-in_err-m.result c.from_residual-in_err-m.ensures.1 in
    rw (p.1, p.2) (search (angles, c.in_ok-n.was, c.in_err-m.was))

pub returns-in_ok-m : goal.returns-in_ok-m
returns-in_ok-m c = search (angles, c.in_ok-n.was, c.in_ok-m.was)

pub returns-else-is_low : goal.returns-else-is_low
returns-else-is_low c = search (angles, c.in_ok-n.was)
