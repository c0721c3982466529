-- `plain_near` passes plain bytes, one at a time.
use Rattle.writer.specs.Runs.{Selfs}
use Rattle.writer.proofs.runs.plain_near.Given as goal

abbrev pub invariant-loop-e : goal.invariant-loop-e
invariant-loop-e l = Selfs l.s l.at l.e
