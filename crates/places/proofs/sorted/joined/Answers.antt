-- `joined` tells whether an earlier key is the same; if none is, the i-th takes its place in the order.
use Rattle.places.specs.Joins.{joining}
use Rattle.places.proofs.sorted.joined.Goals as goal

pub returns-in-None : goal.returns-in-None
returns-in-None c = search joining

pub returns-in-Some : goal.returns-in-Some
returns-in-Some c = search joining
