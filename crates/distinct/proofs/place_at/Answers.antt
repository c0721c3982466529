-- `place_at` gives a place of those in a room.
use native.Mathlib.Omega.{arith}
use Rattle.distinct.proofs.place_at.Goals as goal

pub overflow_cast-result : goal.overflow_cast-result
overflow_cast-result c = omega (arith, c.shared_slice_known-1.given c.args.k)
