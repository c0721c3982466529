-- `quoted_hash` gives the hash of a quoted key. The loop's invariant: it is that of the bytes passed.
use Prim.Native.Nat.{◌-◌}
use Rattle.spelt.specs.Hash.{Hashing}
use Rattle.spelt.proofs.quoted_hash.Given as goal

abbrev pub invariant-loop-passed : goal.invariant-loop-passed
invariant-loop-passed l = Hashing l.doc l.at l.object l.factor l.room l.s l.h (4096 - l.passed)
