-- `onward` tells what can follow digits. Assumes nothing.
use Rattle.texts.specs.Places.{onward_pointed, onward_raised}
use Rattle.texts.proofs.float.onward.Goals as goal

pub returns-then-byte-eq46 : goal.returns-then-byte-eq46
returns-then-byte-eq46 g c = let s = c.args in onward_pointed (g.S.Text.bytes s.s) s.at _ c.byte.ensures.byte c.if-byte-eq46.true c.fraction.result c.fraction.ensures

pub returns : goal.returns
returns g c = let s = c.args in onward_raised (g.S.Text.bytes s.s) s.at _ c.byte.ensures.byte c.if-byte-eq46.false c.power.result c.power.ensures
