-- `decimal` tells a decimal by its digits and by what follows them. Assumes nothing.
use Rattle.texts.specs.Places.{decimal_pointed, decimal_told}
use Rattle.texts.proofs.float.decimal.Goals as goal

pub returns-then-n-at : goal.returns-then-n-at
returns-then-n-at g c = decimal_pointed _ _ _ c.digits-n.ensures c.broken.result c.if-n-at.true c.broken.ensures

pub returns : goal.returns
returns g c = decimal_told _ _ _ c.digits-n.ensures c.onward.result c.if-n-at.false c.onward.ensures
