-- `Cursor::anew` meets its contract: the lesser of a row and a place that is no less is the row. Assumes nothing.
use mathlib.Core.Path.{◌≡◌, refl}
use native.Mathlib.Omega.{arith}
use Rattle.rooms.proofs.Cursor.anew.Goals as goal

pub returns : goal.returns
returns c = let e : c.min.result ≡ c.args.self.row = omega arith in rw e refl
