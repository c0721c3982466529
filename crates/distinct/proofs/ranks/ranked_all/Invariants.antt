-- `ranked_all` puts all keys of the window in order. The loop's invariant: none passed has the text of an earlier one, and they stand in order.
use mathlib.Core.Path.{◌≡◌}
use lib.ListN.{length}
use Rattle.distinct.specs.Ranks.{Sorting}
use Rattle.distinct.proofs.ranks.ranked_all.Given as goal

abbrev pub invariant-loop-i : goal.invariant-loop-i
invariant-loop-i l = Sorting l.text l.froms l.tos l.order l.n l.i × (length l.order ≡ length l.initial.order)
