-- `step` answers the state that the table gives. The loop's invariant: no row before j fits.
use mathlib.Core.Path.{refl}
use Rattle.characters.proofs.table.step.Goals as goal

pub loop-j-init : goal.loop-j-init
loop-j-init c = refl
