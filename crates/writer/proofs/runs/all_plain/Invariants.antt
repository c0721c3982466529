-- `all_plain` tells plain bytes, so many. The loop's invariant: n of the i bytes from `at` on are plain.
use Rattle.writer.specs.Runs.{Counted}
use Rattle.writer.proofs.runs.all_plain.Given as goal

abbrev pub invariant-loop-i : goal.invariant-loop-i
invariant-loop-i l = Counted l.s l.at l.n l.i
