-- `hex_rest` meets its contract.
use Rattle.std.proofs.lemmas.Result.{err_from_is_err_and}
use Rattle.blocktext.proofs.HexLaws.{hex_resting, rest_inside}
use Rattle.blocktext.proofs.hex.hex_rest.Goals as goal

pub returns-then-look-eq35 : goal.returns-then-look-eq35
returns-then-look-eq35 c = search hex_resting

pub returns-in_err-n : goal.returns-in_err-n
returns-in_err-n c =
    let p = err_from_is_err_and c.from_residual.result c.from_residual.ensures.1 in
    rw (p.1, p.2) (search (hex_resting, c.in_err-n.was))

pub optional_comment-more-requires : goal.optional_comment-more-requires
optional_comment-more-requires c = rest_inside _ _ _ c.look.ensures (λ q. c.if-look-eq35.false q) _ _ _ c.pairs.ensures _ _ c.in_ok-n.was

pub returns : goal.returns
returns c = search (hex_resting, c.in_ok-n.was)
