-- `back` goes back to an LF. The loop's invariant: none stands from i on. Assumes nothing.
use mathlib.Core.Path.{◌≡◌}
use Prim.Native.Nat.{◌<◌}
use Rattle.lined.specs.Between.{between}
use Rattle.lined.specs.Counted.{range}
use Rattle.lined.proofs.back.Given as goal

abbrev pub invariant-loop-i : goal.invariant-loop-i
invariant-loop-i l = (between (range 10 10) l.doc l.i l.e ≡ 0) × (l.a < l.i)
