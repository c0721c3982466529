-- `digits` passes the digits that stand there, run by run. The loop's invariant: digits alone stand before the place. Assumes nothing.
use Rattle.std.proofs.Common.{length, ◌-◌}
use Rattle.texts.specs.Runs.{Coming}
use Rattle.texts.proofs.float.digits.Given as goal

abbrev pub invariant-loop-i : goal.invariant-loop-i
invariant-loop-i g l = Coming (g.S.Text.bytes l.s) l.at l.i

abbrev pub decreases-loop-i : goal.decreases-loop-i
decreases-loop-i g l = length (g.S.Text.bytes l.s) - l.i
