-- `scalar_text` tells it of a part of the room. Assumes nothing.
use native.Mathlib.Omega.{arith}
use Rattle.shaped.specs.Shaped.{Scalar}
use Rattle.texts.specs.Scalars.{part_told}
use Rattle.texts.proofs.scalar_text.Goals as goal

pub returns : goal.returns
returns c = let s = c.args in part_told (Scalar s.kind.0) s.a s.e s.text.now (omega arith) c.is_scalar.result c.is_scalar.ensures
