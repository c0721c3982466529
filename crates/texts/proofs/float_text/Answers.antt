-- `float_text` tells it of a part of the room. Assumes nothing.
use native.Mathlib.Omega.{arith}
use Rattle.shaped.specs.Shaped.{FloatText}
use Rattle.texts.specs.Scalars.{part_told}
use Rattle.texts.proofs.float_text.Goals as goal

pub returns : goal.returns
returns c = let s = c.args in part_told FloatText s.a s.e s.text.now (omega arith) c.is_float.result c.is_float.ensures
