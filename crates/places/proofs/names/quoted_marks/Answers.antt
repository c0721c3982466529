-- `quoted_marks` gives the mark of a text, and the number that picks its chain. The loop's invariant: they are those of the bytes passed.
use Rattle.places.specs.Names.{marking}
use Rattle.places.proofs.names.quoted_marks.Goals as goal

pub returns-in-None : goal.returns-in-None
returns-in-None c = search marking

pub loop-mark-smaller : goal.loop-mark-smaller
loop-mark-smaller c = search marking
