-- `broken` tells a decimal that a point begins: a digit must follow the point. Assumes nothing.
use Rattle.texts.specs.Places.{broken_not, broken_bare, broken_told}
use Rattle.texts.proofs.float.broken.Goals as goal

pub returns-then-byte-ne46 : goal.returns-then-byte-ne46
returns-then-byte-ne46 g c = let s = c.args in broken_not (g.S.Text.bytes s.s) s.at _ c.byte.ensures.byte c.if-byte-ne46.true

pub returns-then-n-p : goal.returns-then-n-p
returns-then-n-p g c = broken_bare _ _ _ c.byte.ensures.byte c.if-byte-ne46.false _ c.digits-n.ensures c.if-n-p.true

pub returns : goal.returns
returns g c = broken_told _ _ _ c.byte.ensures.byte c.if-byte-ne46.false _ c.digits-n.ensures c.if-n-p.false c.powers.result c.powers.ensures
