-- `open_string` meets its contract.
use Rattle.std.proofs.lemmas.Result.{err_from_is_err_and}
use Rattle.blocktext.proofs.StringLaws.{open_strings, open_block}
use Rattle.blocktext.proofs.text.open_string.Goals as goal

pub returns-in_err-n : goal.returns-in_err-n
returns-in_err-n c =
    let p = err_from_is_err_and c.from_residual.result c.from_residual.ensures.1 in
    rw (p.1, p.2) (search (open_strings, c.in_err-n.was))

pub led_string-requires : goal.led_string-requires
led_string-requires c = search (open_strings, c.in_ok-n.was)

pub overflow_add-c : goal.overflow_add-c
overflow_add-c c = search (open_strings, c.in_ok-n.was)

pub below-requires : goal.below-requires
below-requires c = search (open_strings, c.in_ok-n.was)

pub returns-in-Some-eq10-default : goal.returns-in-Some-eq10-default
returns-in-Some-eq10-default c = let s = c.in-Some-eq10-default in open_block _ _ _ c.requires _ c.take.ensures _ c.in_ok-n.was _ c.step.ensures _ _ s.is s.field-0-0-test _ _ _ _ _ _ _ _ c.spot.ensures c.put_byte.ensures c.below.ensures
