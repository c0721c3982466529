-- `bare_hash` gives the hash of a bare key. The loop's invariant: it is that of the bytes passed.
use native.Mathlib.Omega.{arith}
use Prim.Native.Nat.{◌-◌}
use Rattle.spelt.specs.Hash.{bare_full, baring}
use Rattle.spelt.proofs.bare_hash.Goals as goal

pub returns-in_default : goal.returns-in_default
returns-in_default c = search baring

pub returns-in_default-2 : goal.returns-in_default-2
returns-in_default-2 c = search baring

pub returns : goal.returns
returns c =
    let s = c.args in
    let l = c.loop-passed in
    bare_full s.doc.now s.from s.object s.factor l.r.at l.h (4096 - l.passed) l.invariant (omega arith)
