-- `hex_lines` meets its contract: up to the LF at n its lines were read.
use Rattle.std.proofs.lemmas.Result.{err_from_is_err_and}
use mathlib.Core.Path.{refl}
use Rattle.blocktext.proofs.PartLaws.{part_first}
use Rattle.blocktext.proofs.HexLaws.{hexing}
use Rattle.blocktext.proofs.hex.hex_lines.Goals as goal

pub loop-rows-init : goal.loop-rows-init
loop-rows-init c = (part_first _ _ _ _ _ _ _ _ _ _ c.requires, refl, refl, refl)

pub hex_rest-requires : goal.hex_rest-requires
hex_rest-requires c = search hexing

pub returns-in_err-n : goal.returns-in_err-n
returns-in_err-n c =
    let p = err_from_is_err_and c.from_residual.result c.from_residual.ensures.1 in
    rw (p.1, p.2) (search (hexing, c.in_err-n.was))

pub loop-rows-smaller : goal.loop-rows-smaller
loop-rows-smaller c = search (hexing, c.in_ok-n.was)
