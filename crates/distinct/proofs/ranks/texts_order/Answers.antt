-- `texts_order` tells how two texts stand to each other: those that agree to both ends are the same.
use Rattle.distinct.specs.Ranks.{agree_same}
use Rattle.distinct.proofs.ranks.texts_order.Goals as goal

pub returns-else-n-m : goal.returns-else-n-m
returns-else-n-m c = agree_same _ _ _ _ _ _ _ c.loop-i.invariant c.requires.0 c.requires.1 c.loop-i-test.false c.if-n-m.false
