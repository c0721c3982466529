-- `size_of` tells what `extent` does of a field that stands there.
use Rattle.cutkeys.specs.Keys.{stands_low}
use Rattle.cutkeys.specs.Found.{fielding}
use Rattle.cutkeys.proofs.keys.size_of.Goals as goal

pub extent-requires : goal.extent-requires
extent-requires c = stands_low c.requires

pub returns-in-Some : goal.returns-in-Some
returns-in-Some c = search fielding
