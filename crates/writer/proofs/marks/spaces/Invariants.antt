-- `spaces` writes n spaces; those that are left become fewer.
use mathlib.Core.Path.{◌≡◌}
use Prim.Native.Nat.{◌+◌, ◌-◌}
use lib.ListN.{length}
use lib.Seq.{sets}
use Rattle.language.specs.BlockText.{spaces}
use Rattle.writer.proofs.marks.spaces.Given as goal

abbrev pub invariant-loop-i : goal.invariant-loop-i
invariant-loop-i l = (sets l.initial.out l.x (spaces l.n) ≡ sets l.out (l.x + l.i) (spaces (l.n - l.i))) × (length l.out ≡ length l.initial.out)
