-- `Reading::run` answers the place behind the bytes b. The loop's invariant: those from i on end where those from the first place on do.
use mathlib.Core.Path.{◌≡◌}
use Rattle.exact.specs.Class.{only}
use Rattle.exact.specs.Place.{run_end}
use Rattle.characters.proofs.Reading.run.Given as goal

abbrev pub invariant-loop-at : goal.invariant-loop-at
invariant-loop-at l = run_end (only l.b) l.doc l.initial.at ≡ run_end (only l.b) l.doc l.at
