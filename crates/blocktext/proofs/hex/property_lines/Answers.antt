-- `property_lines` meets its contract.
use Rattle.std.proofs.lemmas.Result.{err_from_is_err_and}
use Rattle.blocktext.proofs.HexLaws.{first_lines, first_ready, first_stop, first_begun, first_went}
use Rattle.blocktext.proofs.hex.property_lines.Goals as goal

pub returns-then-s-a : goal.returns-then-s-a
returns-then-s-a c = search first_lines

pub hex_rest-requires : goal.hex_rest-requires
hex_rest-requires c = first_ready _ _ _ _ c.requires _ c.spaces-s.ensures c.if-s-a.false

pub returns-in_err-n : goal.returns-in_err-n
returns-in_err-n c =
    let p = err_from_is_err_and c.from_residual.result c.from_residual.ensures.1 in
    rw (p.1, p.2) (first_stop _ _ _ _ c.requires _ c.spaces-s.ensures c.if-s-a.false _ _ _ c.hex_rest.ensures _ _ _ c.in_err-n.was)

pub hex_lines-requires : goal.hex_lines-requires
hex_lines-requires c = first_begun _ _ _ _ c.requires _ c.spaces-s.ensures c.if-s-a.false _ _ _ c.hex_rest.ensures _ c.in_ok-n.was

pub returns : goal.returns
returns c = first_went _ _ _ _ c.requires _ c.spaces-s.ensures c.if-s-a.false _ _ _ c.hex_rest.ensures _ c.in_ok-n.was _ _ _ _ _ c.hex_lines.ensures
