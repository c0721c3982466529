use native.Mathlib.Nat.{zero-add}
use native.Mathlib.Omega.{arith}
use mathlib.Core.Path.{◌≡◌}
use Prim.Native.Nat.{◌+◌}
use native.Mathlib.Nat.{add-zero}
use Rattle.exact.specs.Place.{common_other, common_more}
use Rattle.rooms.specs.Indent.{common_done}
use Rattle.rooms.proofs.same.Goals as goal

pub loop-n-init : goal.loop-n-init
loop-n-init c = let s = c.args in (rw (add-zero s.at) (rw zero-add), omega arith, omega arith)

pub returns-then-doc-at : goal.returns-then-doc-at
returns-then-doc-at c = let s = c.args in let l = c.loop-n in let z = common_other s.word.now s.doc.now l.n (s.at + l.n) (omega arith) (omega arith) c.if-doc-at.true in (omega (arith, l.invariant.0, z), omega arith)

pub loop-n-preserved : goal.loop-n-preserved
loop-n-preserved c = let s = c.args in let l = c.loop-n in let z = common_more s.word.now s.doc.now l.n (s.at + l.n) (omega arith) (omega arith) c.if-doc-at.false in let a : s.at + (l.n + 1) ≡ s.at + l.n + 1 = omega arith in (rw a (omega (arith, l.invariant.0, z)), omega arith, omega arith)

pub returns : goal.returns
returns c = let s = c.args in let l = c.loop-n in let z = common_done s.word.now s.doc.now s.at l.n c.requires (omega arith) in (omega (arith, l.invariant.0, z), omega arith)
