-- `tag` gives the tag of a field.
use native.Mathlib.Omega.{arith}
use Rattle.uncut.proofs.heads.tag.Goals as goal

pub overflow_cast-result : goal.overflow_cast-result
overflow_cast-result c = omega (arith, c.shared_slice_known-1.given c.args.at)
