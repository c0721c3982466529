-- `walk` goes as document 01 walks: what answers at `at` answers the whole, and each turn comes nearer to `stop`.
use Rattle.questions.proofs.WalkLaws.{Reached}
use Prim.Native.Nat.{◌-◌}
use Rattle.questions.proofs.finding.walk.Given as goal

abbrev pub invariant-loop-at : goal.invariant-loop-at
invariant-loop-at l = Reached l.table l.rows l.room l.key l.stop l.from l.at

abbrev pub decreases-loop-at : goal.decreases-loop-at
decreases-loop-at l = l.stop - l.at
