-- `copy_words` stores words of one table in another. The loop's invariant: what is still to be stored from i on gives the whole.
use Rattle.std.proofs.Common.{◌≡◌, length}
use Rattle.std.proofs.Math.Seq.{slice}
use Rattle.std.proofs.lemmas.List.Edits.{sets}
use Rattle.answers.proofs.copy_words.Given as goal

abbrev pub invariant-loop-i : goal.invariant-loop-i
invariant-loop-i l = (sets l.initial.table 0 (slice 0 l.n l.words) ≡ sets l.table l.i (slice l.i l.n l.words)) × (length l.table ≡ length l.initial.table)
