-- `long` tells the number of bytes from the number that the first two make. Assumes nothing.
use native.Mathlib.Omega.{arith}
use Rattle.texts.specs.Opens.{long_two, long_below, long_above, long_four, long_none, opening}
use Rattle.texts.proofs.script.long.Goals as goal

pub inner-requires : goal.inner-requires
inner-requires c = search opening

pub when-requires : goal.when-requires
when-requires c = search opening

pub inner-requires-in-61056-to-61375 : goal.inner-requires-in-61056-to-61375
inner-requires-in-61056-to-61375 c = search opening

pub when-requires-in-61056-to-61375 : goal.when-requires-in-61056-to-61375
when-requires-in-61056-to-61375 c = search opening

pub two_inner-requires : goal.two_inner-requires
two_inner-requires c = search opening

pub when-requires-in-61584-to-62607 : goal.when-requires-in-61584-to-62607
when-requires-in-61584-to-62607 c = search opening

pub returns-in-49792-to-57279 : goal.returns-in-49792-to-57279
returns-in-49792-to-57279 c = long_two _ _ _ (omega arith) (omega arith)

pub returns-in-57504-to-60831 : goal.returns-in-57504-to-60831
returns-in-57504-to-60831 c = long_below _ _ _ (omega arith) (omega arith) c.inner.result c.inner.ensures _ c.when.ensures

pub returns-in-61056-to-61375 : goal.returns-in-61056-to-61375
returns-in-61056-to-61375 c = long_above _ _ _ (omega arith) (omega arith) c.inner-in-61056-to-61375.result c.inner-in-61056-to-61375.ensures _ c.when-in-61056-to-61375.ensures

pub returns-in-61584-to-62607 : goal.returns-in-61584-to-62607
returns-in-61584-to-62607 c = long_four _ _ _ (omega arith) (omega arith) c.two_inner.result c.two_inner.ensures _ c.when-in-61584-to-62607.ensures

pub returns-in_default : goal.returns-in_default
returns-in_default c = long_none _ _ _ (omega arith) (omega arith) (omega arith) (omega arith)

pub returns-in_default-2 : goal.returns-in_default-2
returns-in_default-2 c = long_none _ _ _ (omega arith) (omega arith) (omega arith) (omega arith)

pub returns-in_default-3 : goal.returns-in_default-3
returns-in_default-3 c = long_none _ _ _ (omega arith) (omega arith) (omega arith) (omega arith)

pub returns-in_default-4 : goal.returns-in_default-4
returns-in_default-4 c = long_none _ _ _ (omega arith) (omega arith) (omega arith) (omega arith)

pub returns-in_default-5 : goal.returns-in_default-5
returns-in_default-5 c = long_none _ _ _ (omega arith) (omega arith) (omega arith) (omega arith)
