-- `all` writes a text whole, as far as there is room for it.
use mathlib.Core.Path.{◌≡◌}
use Rattle.std.proofs.Math.Seq.{paste}
use lib.ListN.{length}
use Rattle.writer.proofs.marks.all.Given as goal

abbrev pub invariant-loop-i : goal.invariant-loop-i
invariant-loop-i l = (l.out ≡ paste l.initial.out l.x l.text l.i) × (length l.out ≡ length l.initial.out)
