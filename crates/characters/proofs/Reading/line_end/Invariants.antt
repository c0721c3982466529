-- `Reading::line_end` answers the place of the first LF. The loop's invariant: there is none up to i.
use Rattle.characters.specs.Runs.{Dried}
use Rattle.characters.proofs.Reading.line_end.Given as goal

abbrev pub invariant-loop-at : goal.invariant-loop-at
invariant-loop-at l = Dried l.doc l.initial.at l.at
