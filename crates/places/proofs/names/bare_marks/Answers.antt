-- `bare_marks` gives the mark of a bare key, and the number that picks its chain. The loop's invariant: they are those of the bytes passed.
use Rattle.places.specs.Names.{baring}
use Rattle.places.proofs.names.bare_marks.Goals as goal

pub loop-b-smaller : goal.loop-b-smaller
loop-b-smaller c = search baring

pub returns-in-None : goal.returns-in-None
returns-in-None c = search baring

pub returns-else-is_key : goal.returns-else-is_key
returns-else-is_key c = search baring
