-- `quoted_hash` gives the hash of a quoted key. The loop's invariant: it is that of the bytes passed.
use native.Mathlib.Omega.{arith}
use Prim.Native.Nat.{◌-◌}
use Rattle.spelt.specs.Hash.{hashing_full, hashing}
use Rattle.spelt.proofs.quoted_hash.Goals as goal

pub returns-in-None : goal.returns-in-None
returns-in-None c = search hashing

pub returns : goal.returns
returns c =
    let s = c.args in
    let l = c.loop-passed in
    hashing_full s.doc.now s.at s.object s.factor l.room l.s l.h (4096 - l.passed) l.invariant (omega arith)
