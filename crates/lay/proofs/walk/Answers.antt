-- `walk` lays the one root over the other.
use Rattle.lay.specs.Root.{roots_objects, roots_told}
use native.Mathlib.Omega.{arith}
use Rattle.lay.proofs.walk.Goals as goal

pub object-requires : goal.object-requires
object-requires c = (roots_objects _ _ _ _ c.requires, omega arith, omega arith, omega arith)

pub returns : goal.returns
returns c = λ h. roots_told _ _ _ _ h c.object.ensures
