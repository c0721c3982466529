-- `bare_hash` gives the hash of a bare key. The loop's invariant: it is that of the bytes passed.
use Prim.Native.Nat.{◌-◌}
use Rattle.spelt.specs.Hash.{BareHashing}
use Rattle.spelt.proofs.bare_hash.Given as goal

abbrev pub invariant-loop-passed : goal.invariant-loop-passed
invariant-loop-passed l = BareHashing l.doc l.from l.object l.factor l.r.at l.h (4096 - l.passed)
