-- `number` meets its contract. Assumes nothing.
use Rattle.texts.specs.Runs.{number_none, number_told}
use Rattle.texts.proofs.float.number.Goals as goal

pub returns-then-n-at : goal.returns-then-n-at
returns-then-n-at g c = number_none _ _ _ c.digits-n.ensures c.if-n-at.true

pub returns : goal.returns
returns g c = number_told _ _ _ c.digits-n.ensures c.if-n-at.false c.count.result c.count.ensures.count
