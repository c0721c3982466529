-- `scalar` tells a scalar by its text.
use Rattle.std.proofs.Common.{refl}
use Rattle.sound.proofs.RowLaws.{scalar_none, scalar_bad}
use Rattle.sound.proofs.scalar.Goals as goal

pub returns-in_err-t : goal.returns-in_err-t
returns-in_err-t c = rw c.from_residual.ensures (scalar_none _ _ _ _ _ c.texted.ensures _ _ c.requires.0 c.requires.1 c.requires.2 c.in_err-t.was)

pub returns : goal.returns
returns c = scalar_bad _ _ _ _ _ c.texted.ensures _ _ c.requires.0 c.requires.1 c.requires.2 _ c.in_ok-t.was _ refl _ c.scalar_text.ensures c.if-scalar_text.false
