-- `part_at` moves a part, and puts its head before it.
use Prim.Native.Nat.{◌+◌, ◌*◌}
use native.Mathlib.Omega.{arith}
use Rattle.fields.specs.Spread.{part_moved, shifted}
use Rattle.fields.proofs.part_at.Goals as goal

pub returns : goal.returns
returns c =
    let s = c.args in
    part_moved s.out.now _ _ (s.x + 65538 * s.k) (s.x + 3 + 65535 * s.k) s.tag s.m (omega arith) (shifted _ _ _ _ s.m (omega arith) (omega arith) c.copy_within.ensures.after) c.head.ensures
