-- `Cursor::spot` meets its contract. Assumes nothing.
use mathlib.Core.Path.{refl}
use Rattle.rooms.specs.Told.{spot}
use Rattle.rooms.proofs.Cursor.spot.Goals as goal

pub returns : goal.returns
unfolding spot
returns c = refl
