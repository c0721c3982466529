-- `counting` tells digits without a leading zero. Assumes nothing.
use Rattle.texts.specs.Integers.{counting_zero, counting_told}
use Rattle.texts.proofs.integer.counting.Goals as goal

pub returns-then-byte-eq48 : goal.returns-then-byte-eq48
returns-then-byte-eq48 g c = counting_zero (g.S.Text.bytes c.args.s) c.args.at _ c.byte.ensures.byte c.if-byte-eq48.true

pub returns : goal.returns
returns g c = counting_told (g.S.Text.bytes c.args.s) c.args.at _ c.byte.ensures.byte c.if-byte-eq48.false c.number.result c.number.ensures
