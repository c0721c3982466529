-- `size` tells the number of bytes from the first four. Assumes nothing.
use native.Mathlib.Omega.{arith}
use Rattle.texts.specs.Opens.{led_long, opening}
use Rattle.texts.proofs.script.size.Goals as goal

pub returns-then-b-lt128 : goal.returns-then-b-lt128
returns-then-b-lt128 c = search opening

pub returns-then-inner : goal.returns-then-inner
returns-then-inner c = let s = c.args in led_long s.b s.c s.d s.f (omega arith) c.inner.result c.inner.ensures c.if-inner.true c.long.result c.long.ensures
