-- `ordered` tells how two keys stand to each other in the order of their names.
use Rattle.places.specs.Names.{comparing}
use Rattle.places.proofs.names.ordered.Goals as goal

pub returns-then-is_ne-2 : goal.returns-then-is_ne-2
returns-then-is_ne-2 c = search comparing

pub returns : goal.returns
returns c = search comparing
