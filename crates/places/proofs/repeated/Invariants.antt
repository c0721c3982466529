-- `repeated` gives the answer for n keys. The loop's invariant: none passed has an earlier one, and they stand in the chains.
use Rattle.std.proofs.Common.{◌≡◌, length}
use Rattle.places.specs.Walks.{Passed}
use Rattle.places.proofs.repeated.Given as goal

abbrev pub invariant-loop-i : goal.invariant-loop-i
invariant-loop-i l = Passed l.doc l.keys l.heads l.links l.marks l.n l.i × (length l.heads ≡ length l.initial.heads) × (length l.links ≡ length l.initial.links) × (length l.marks ≡ length l.initial.marks)
