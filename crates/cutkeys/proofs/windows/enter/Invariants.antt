-- `enter` puts keys into a window and its chains as they are passed. The loop's invariant: the first n stand there, none has the text of an earlier one, and the others are those from k on.
use mathlib.Core.Path.{◌≡◌}
use Prim.Native.Nat.{◌-◌}
use lib.ListN.{length}
use Rattle.distinct.specs.Entering.{Entering}
use Rattle.cutkeys.specs.Found.{Seeing, place_in}
use Rattle.cutkeys.specs.Content.{wholes_of}
use Rattle.cutkeys.proofs.windows.enter.Given as goal

abbrev pub invariant-loop-found : goal.invariant-loop-found
invariant-loop-found l = Entering (wholes_of l.v) l.v.stored.now l.froms l.tos l.heads l.links l.from l.n (place_in l.v.n l.found) × Seeing l.v.stored.now l.v.starts.now l.v.d l.v.n l.found × (length l.froms ≡ length l.initial.froms) × (length l.tos ≡ length l.initial.tos) × (length l.heads ≡ length l.initial.heads) × (length l.links ≡ length l.initial.links)

abbrev pub decreases-loop-found : goal.decreases-loop-found
decreases-loop-found l = l.v.n - place_in l.v.n l.found
