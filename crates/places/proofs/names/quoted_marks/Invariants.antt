-- `quoted_marks` gives the mark of a text, and the number that picks its chain. The loop's invariant: they are those of the bytes passed.
use Rattle.places.specs.Names.{Marking}
use Rattle.spelt.specs.Spelling.{weight}
use Rattle.places.proofs.names.quoted_marks.Given as goal

abbrev pub invariant-loop-mark : goal.invariant-loop-mark
invariant-loop-mark l = Marking l.doc l.at l.object l.room l.s l.mark l.stir

abbrev pub decreases-loop-mark : goal.decreases-loop-mark
decreases-loop-mark l = weight l.doc l.s
