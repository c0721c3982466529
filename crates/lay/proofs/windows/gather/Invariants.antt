-- `gather` fills a window with the texts of keys. The loop's invariant: the first n stand there, and the others are those from r on.
use mathlib.Core.Path.{◌≡◌}
use Prim.Native.Nat.{◌-◌}
use lib.ListN.{length}
use Rattle.lay.specs.Gathering.{Gathers}
use Rattle.lay.proofs.windows.gather.Given as goal

abbrev pub invariant-loop-r : goal.invariant-loop-r
invariant-loop-r l = Gathers l.table.rows.now l.table.text.now l.q l.end l.froms l.tos l.marks l.most l.n l.r × (length l.froms ≡ length l.initial.froms) × (length l.tos ≡ length l.initial.tos) × (length l.marks ≡ length l.initial.marks)

abbrev pub decreases-loop-r : goal.decreases-loop-r
decreases-loop-r l = l.end - l.r
