-- `spaces` writes n spaces; those that are left become fewer.
use mathlib.Core.Path.{◌≡◌, refl}
use Prim.Native.Nat.{◌+◌, ◌-◌}
use Rattle.writer.specs.Puts.{spaces_turn, spaces_done}
use borrow.Author.Rules.{rules}
use native.Mathlib.Omega.{arith}
use Rattle.writer.proofs.marks.spaces.Goals as goal

pub loop-i-init : goal.loop-i-init
loop-i-init c = let s = c.args in let z : s.x + 0 ≡ s.x = omega arith in let n : s.n - 0 ≡ s.n = omega arith in (rw (z, n) refl, refl)

pub loop-i-preserved : goal.loop-i-preserved
loop-i-preserved c = search (spaces_turn, rules)

pub returns : goal.returns
returns c = search (spaces_done, rules)
