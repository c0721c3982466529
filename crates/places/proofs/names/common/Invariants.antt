-- `common` passes the bytes that two texts have in common. The loop's invariant: the same bytes are passed in both.
use Rattle.spelt.specs.Standing.{Common}
use Rattle.spelt.specs.Spelling.{weight}
use Rattle.places.proofs.names.common.Given as goal

abbrev pub invariant-loop-s : goal.invariant-loop-s
invariant-loop-s l = Common l.doc l.initial.s l.initial.t l.s l.t

abbrev pub decreases-loop-s : goal.decreases-loop-s
decreases-loop-s l = weight l.doc l.s
