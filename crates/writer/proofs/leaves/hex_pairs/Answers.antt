-- `hex_pairs` writes the pairs of bytes.
use mathlib.Core.Path.{◌≡◌, refl}
use Prim.Native.Nat.{◌+◌}
use Rattle.writer.specs.Leaves.{pairs_none, pairs_turn, pairs_done}
use borrow.Author.Rules.{rules}
use native.Mathlib.Omega.{arith}
use Rattle.writer.proofs.leaves.hex_pairs.Goals as goal

pub returns-then-out-x : goal.returns-then-out-x
returns-then-out-x c = search (pairs_none, rules)

pub loop-i-init : goal.loop-i-init
loop-i-init c = let s = c.args in let z : s.x + 0 ≡ s.x = omega arith in (rw z refl, refl)

pub loop-i-preserved : goal.loop-i-preserved
loop-i-preserved c =
    let l = c.loop-i in
    (pairs_turn _ _ l.out _ _ _ l.i _ _ l.invariant.0 (omega arith) c.digit.ensures c.digit-in-loop-i.ensures c.put_two.ensures, search rules)

pub returns : goal.returns
returns c = search (pairs_done, rules)
