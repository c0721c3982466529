-- `digits` passes the digits that stand there, run by run. Assumes nothing.
use Rattle.texts.specs.Digits.{digits_on, digits_stop, digiting}
use Rattle.texts.proofs.float.digits.Goals as goal

pub returns-then-n-run : goal.returns-then-n-run
returns-then-n-run g c = digits_stop c.loop-i.invariant c.run-run.ensures c.leading-n.ensures c.if-n-run.true

pub loop-i-preserved : goal.loop-i-preserved
loop-i-preserved g c = digits_on c.loop-i.invariant c.run-run.ensures c.leading-n.ensures

pub returns : goal.returns
returns g c = search digiting
