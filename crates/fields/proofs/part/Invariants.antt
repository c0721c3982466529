-- `part` stores a run of bytes, all of which have room.
use mathlib.Core.Path.{◌≡◌}
use Rattle.std.specs.Prelude.{drop}
use Rattle.std.proofs.Math.Seq.{paste}
use lib.ListN.{length}
use Rattle.fields.proofs.part.Given as goal

abbrev pub invariant-loop-i : goal.invariant-loop-i
invariant-loop-i l = (l.out ≡ paste l.initial.out l.x (drop l.a l.text) l.i) × (length l.out ≡ length l.initial.out)
