-- `Cursor::tally` meets its contract. Assumes nothing.
use mathlib.Core.Path.{refl}
use Rattle.rooms.specs.Told.{tally}
use Rattle.rooms.proofs.Cursor.tally.Goals as goal

pub returns : goal.returns
unfolding tally
returns c = refl
