-- `wide_end` tells by the first byte that a character of several bytes is allowed, or asks `rare_end`.
use mathlib.Core.Path.{refl}
use Rattle.writer.specs.Runs.{selfs_two, selfs_three}
use native.Mathlib.Omega.{arith}
use Rattle.writer.proofs.runs.wide_end.Goals as goal

pub returns-in-195-to-223 : goal.returns-in-195-to-223
returns-in-195-to-223 c = selfs_two c.requires refl (omega arith) (omega arith)

pub returns-in-224-to-236 : goal.returns-in-224-to-236
returns-in-224-to-236 c = selfs_three c.requires refl (omega arith) (omega arith)
