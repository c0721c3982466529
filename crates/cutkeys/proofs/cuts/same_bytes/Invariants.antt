-- `same_bytes` compares runs of both contents. The loop's invariant: the first i bytes are the same.
use Prim.Native.Nat.{◌-◌}
use Rattle.cutkeys.specs.CutsSame.{Alike}
use Rattle.cutkeys.proofs.cuts.same_bytes.Given as goal

abbrev pub invariant-loop-i : goal.invariant-loop-i
invariant-loop-i l = Alike l.a.stored.now l.a.starts.now l.a.d l.b.stored.now l.b.starts.now l.b.d l.a.n l.i

abbrev pub decreases-loop-i : goal.decreases-loop-i
decreases-loop-i l = l.a.n - l.i
