-- `sorted` gives the answer for n keys. The loop's invariant: none passed has an earlier one, and they stand in order.
use Rattle.std.proofs.Common.{◌≡◌, length}
use Rattle.places.specs.Joins.{Sorting}
use Rattle.places.proofs.sorted.sorted.Given as goal

abbrev pub invariant-loop-i : goal.invariant-loop-i
invariant-loop-i l = Sorting l.doc l.keys l.order l.marks l.n l.i × (length l.order ≡ length l.initial.order) × (length l.marks ≡ length l.initial.marks)
