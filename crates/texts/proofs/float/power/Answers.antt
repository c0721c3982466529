-- `power` tells an exponent. Assumes nothing.
use Rattle.texts.specs.Places.{power_not, power_after_sign, power_after}
use Rattle.texts.proofs.float.power.Goals as goal

pub returns-then-byte-ne101 : goal.returns-then-byte-ne101
returns-then-byte-ne101 g c = let s = c.args in power_not (g.S.Text.bytes s.s) s.at _ c.byte.ensures.byte c.if-byte-ne101.true

pub returns-in-43 : goal.returns-in-43
returns-in-43 g c =
    let s = c.args in
    power_after_sign (g.S.Text.bytes s.s) s.at _ c.byte.ensures.byte c.if-byte-ne101.false _ c.byte-2.ensures.byte c.number.result c.in-43.is c.number.ensures

pub returns-in_default : goal.returns-in_default
returns-in_default g c =
    let s = c.args in
    power_after (g.S.Text.bytes s.s) s.at _ c.byte.ensures.byte c.if-byte-ne101.false _ c.byte-2.ensures.byte c.number-in_default.result c.in_default.in_default-own.rest.1 c.number-in_default.ensures
