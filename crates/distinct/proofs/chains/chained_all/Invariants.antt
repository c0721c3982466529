-- `chained_all` puts all keys of the window into chains. The loop's invariant: none passed has the text of an earlier one, and they stand in the chains.
use mathlib.Core.Path.{◌≡◌}
use lib.ListN.{length}
use Rattle.distinct.specs.Chains.{Passed}
use Rattle.distinct.proofs.chains.chained_all.Given as goal

abbrev pub invariant-loop-i : goal.invariant-loop-i
invariant-loop-i l = Passed l.text l.froms l.tos l.heads l.links l.n l.i × (length l.heads ≡ length l.initial.heads) × (length l.links ≡ length l.initial.links)
