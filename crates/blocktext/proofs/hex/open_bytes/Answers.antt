-- `open_bytes` meets its contract.
use Rattle.std.proofs.lemmas.Result.{err_from_is_err_and}
use Rattle.blocktext.proofs.HexLaws.{bytes_ready, bytes_begun, bytes_block}
use Rattle.blocktext.proofs.PartLaws.{not_led}
use Rattle.blocktext.proofs.hex.open_bytes.Goals as goal

pub returns-in_err-n : goal.returns-in_err-n
returns-in_err-n c =
    let p = err_from_is_err_and c.from_residual.result c.from_residual.ensures.1 in
    rw (p.1, p.2) (not_led _ _ _ _ c.requires _ c.take.ensures _ c.in_err-n.was _ _ _ _)

pub hex_rest-requires : goal.hex_rest-requires
hex_rest-requires c = bytes_ready _ _ _ c.requires _ c.take.ensures _ c.in_ok-n.was _ c.take-2.ensures _ c.in_ok-m.was

pub hex_lines-requires : goal.hex_lines-requires
hex_lines-requires c = bytes_begun _ _ _ c.requires _ c.take.ensures _ c.in_ok-n.was _ c.take-2.ensures _ c.in_ok-m.was _ _ _ c.hex_rest.ensures _ c.in_ok-e.was

pub returns : goal.returns
returns c = bytes_block _ _ _ c.requires _ c.take.ensures _ c.in_ok-n.was _ c.take-2.ensures _ c.in_ok-m.was _ _ _ c.hex_rest.ensures _ c.in_ok-e.was _ _ _ _ _ c.hex_lines.ensures
