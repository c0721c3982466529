-- `put_part` stores as many words as have room. The loop's invariant: what is still to be stored from k on gives the whole.
use Rattle.std.proofs.Common.{◌≡◌, ◌+◌, length}
use Rattle.std.proofs.Math.Seq.{slice}
use Rattle.std.proofs.lemmas.List.Edits.{sets}
use Rattle.rooms.proofs.put_part.Given as goal

abbrev pub invariant-loop-k : goal.invariant-loop-k
invariant-loop-k l = (sets l.initial.rows l.i (slice 0 l.n l.words) ≡ sets l.rows (l.i + l.k) (slice l.k l.n l.words)) × (length l.rows ≡ length l.initial.rows)
