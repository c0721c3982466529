-- `property_string` meets its contract.
use Rattle.std.proofs.lemmas.Result.{err_from_is_err_and}
use Rattle.blocktext.proofs.StringLaws.{property_strings, property_begun}
use Rattle.blocktext.proofs.text.property_string.Goals as goal

pub returns-in_err-n : goal.returns-in_err-n
returns-in_err-n c =
    let p = err_from_is_err_and c.from_residual.result c.from_residual.ensures.1 in
    rw (p.1, p.2) (search (property_strings, c.in_err-n.was))

pub below-requires : goal.below-requires
below-requires c = property_begun _ _ _ c.requires _ c.take.ensures _ c.in_ok-n.was _ c.take-2.ensures _ c.in_ok-take.was

pub returns : goal.returns
returns c = search (property_strings, c.in_ok-n.was, c.in_ok-take.was)
