-- `count` counts the bytes of a profile.
use native.Mathlib.Omega.{arith}
use Rattle.writer.proofs.Profile.count.Goals as goal

pub returns : goal.returns
returns c = λ h. omega (arith, (c.house.ensures h).ends)
