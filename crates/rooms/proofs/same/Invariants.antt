use mathlib.Core.Path.{◌≡◌}
use Prim.Native.Nat.{◌+◌, ◌≤◌}
use lib.ListN.{length, drop}
use Rattle.exact.specs.Place.{common}
use Rattle.rooms.proofs.same.Given as goal

abbrev pub invariant-loop-n : goal.invariant-loop-n
invariant-loop-n l = (common l.word (drop l.at l.doc) ≡ l.n + common (drop l.n l.word) (drop (l.at + l.n) l.doc)) × (l.n ≤ length l.word) × (l.at + l.n ≤ length l.doc)
