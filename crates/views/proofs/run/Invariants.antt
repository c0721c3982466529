-- `run` goes from a view out to the stored bytes, and keeps to the nearest cut.
use Prim.Native.Nat.{◌≤◌}
use Rattle.views.specs.Views.{Along}
use Rattle.views.proofs.run.Given as goal

abbrev pub invariant-loop-k : goal.invariant-loop-k
invariant-loop-k l = Along l.starts l.d l.i l.most l.k l.p l.left × (l.d ≤ 34)
