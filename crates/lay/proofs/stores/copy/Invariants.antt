-- `copy` stores a run of bytes as far as there is room. The loop's invariant: what is still to be stored from i on gives the whole.
use Rattle.std.proofs.Common.{◌≡◌, ◌+◌, length}
use Rattle.std.proofs.Math.Seq.{slice}
use Rattle.std.proofs.lemmas.List.Edits.{sets}
use Rattle.lay.proofs.stores.copy.Given as goal

abbrev pub invariant-loop-i : goal.invariant-loop-i
invariant-loop-i l = (sets l.initial.room l.x (slice l.a (l.a + l.n) l.text) ≡ sets l.room (l.x + l.i) (slice (l.a + l.i) (l.a + l.n) l.text)) × (length l.room ≡ length l.initial.room)
