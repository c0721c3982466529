-- `in_rooms` lends rooms with nothing in them.
use native.Mathlib.Omega.{arith}
use Rattle.reader.specs.Filling.{in_room}
use Rattle.reader.proofs.in_rooms.Goals as goal

pub attempt-requires : goal.attempt-requires
attempt-requires g c = in_room _ g.row.LOG g.row.WORDS g.row.BYTES (omega arith) (omega arith) (omega arith) (omega arith) (omega arith)
