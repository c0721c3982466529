-- `soon` looks whether an LF stands where the least key says. Assumes nothing.
use mathlib.Core.Path.{refl}
use native.Mathlib.Omega.{arith}
use Prim.Native.Nat.{◌+◌}
use lib.ListN.{get_or}
use Rattle.lined.specs.Counted.{hit, range, hit_within}
use Rattle.lined.specs.Searching.{soon_here}
use Rattle.lined.proofs.soon.Goals as goal

pub returns-then-doc-at-eq10 : goal.returns-then-doc-at-eq10
returns-then-doc-at-eq10 c =
    let s = c.args in
    let k = c.near-k in
    let b = get_or s.doc.now (s.at + k.result) 0 in
    soon_here s.doc.now s.at k.result (hit (range 10 10) b) k.ensures (omega arith) (omega arith) refl (omega (arith, hit_within 10 10 b (omega arith) (omega arith)))
