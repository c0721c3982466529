-- `leading` passes digits. The loop's invariant: digits alone stand before the place.
use Rattle.std.proofs.Common.{length, ◌-◌}
use Rattle.texts.specs.Digits.{Digital}
use Rattle.texts.proofs.float.leading.Given as goal

abbrev pub invariant-loop-n : goal.invariant-loop-n
invariant-loop-n l = Digital l.run l.n

abbrev pub decreases-loop-n : goal.decreases-loop-n
decreases-loop-n l = length l.run - l.n
