-- `bare_marks` gives the mark of a bare key, and the number that picks its chain. The loop's invariant: they are those of the bytes passed.
use Rattle.std.proofs.Common.{◌-◌, length}
use Rattle.places.specs.Names.{BareMarking}
use Rattle.places.proofs.names.bare_marks.Given as goal

abbrev pub invariant-loop-b : goal.invariant-loop-b
invariant-loop-b l = BareMarking l.doc l.from l.object l.r.at l.mark l.stir

abbrev pub decreases-loop-b : goal.decreases-loop-b
decreases-loop-b l = length l.doc - l.r.at
