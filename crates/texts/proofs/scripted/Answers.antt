-- `scripted` tells it of a part of the room. Assumes nothing.
use native.Mathlib.Omega.{arith}
use Rattle.shaped.specs.Shaped.{Scripted}
use Rattle.texts.specs.Scalars.{part_told}
use Rattle.texts.proofs.scripted.Goals as goal

pub returns : goal.returns
returns c = let s = c.args in part_told Scripted s.a s.e s.text.now (omega arith) c.is_script.result c.is_script.ensures
