-- `count` tells what is needed, or a clash.
use Rattle.lay.specs.Root.{lays_counts}
use Rattle.lay.proofs.count.Goals as goal

pub returns : goal.returns
returns c = λ h. lays_counts (c.walk.ensures h)
