-- `is_script` tells UTF-8 of scalar values. The loop's invariant: whole characters stand before the place. Assumes nothing.
use Rattle.std.proofs.Common.{length, ◌-◌}
use Rattle.texts.specs.Script.{Behind}
use Rattle.texts.proofs.script.is_script.Given as goal

abbrev pub invariant-loop-at : goal.invariant-loop-at
invariant-loop-at g l = Behind (g.S.Text.bytes l.s) 0 l.at

abbrev pub decreases-loop-at : goal.decreases-loop-at
decreases-loop-at g l = length (g.S.Text.bytes l.s) - l.at
