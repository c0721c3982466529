-- `property_bytes` meets its contract.
use Rattle.std.proofs.lemmas.Result.{err_from_is_err_and}
use Rattle.blocktext.proofs.HexLaws.{property_ready, property_begun, property_block}
use Rattle.blocktext.proofs.PartLaws.{not_led}
use Rattle.blocktext.proofs.hex.property_bytes.Goals as goal

pub returns-in_err-m : goal.returns-in_err-m
returns-in_err-m c =
    let p = err_from_is_err_and c.from_residual.result c.from_residual.ensures.1 in
    rw (p.1, p.2) (not_led _ _ _ _ c.requires _ c.take.ensures _ c.in_err-m.was _ _ _ _)

pub leader-requires : goal.leader-requires
leader-requires c = property_ready _ _ _ c.requires _ c.take.ensures _ c.in_ok-m.was

pub property_lines-requires : goal.property_lines-requires
property_lines-requires c = property_begun _ _ _ c.requires _ c.take.ensures _ c.in_ok-m.was _ c.leader.ensures _ c.in_ok-n.was

pub returns : goal.returns
returns c = property_block _ _ _ c.requires _ c.take.ensures _ c.in_ok-m.was _ c.leader.ensures _ c.in_ok-n.was _ _ _ _ _ _ c.property_lines.ensures
