-- `one_line` writes a value and an LF.
use Rattle.writer.specs.Puts.{puts_then}
use native.Mathlib.Omega.{arith}
use Rattle.writer.proofs.Profile.one_line.Goals as goal

pub put-requires : goal.put-requires
put-requires c = let h = c.requires in omega (arith, h.room, (c.inline-y.ensures h).ends)

pub returns : goal.returns
returns c = λ h. puts_then (c.inline-y.ensures h) c.put.ensures
