-- `place` goes from a view out to the stored bytes.
use Prim.Native.Nat.{◌≤◌}
use Rattle.views.specs.Views.{Came}
use Rattle.views.proofs.place.Given as goal

abbrev pub invariant-loop-k : goal.invariant-loop-k
invariant-loop-k l = Came l.starts l.d l.i l.k l.p × (l.d ≤ 34)
