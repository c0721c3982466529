-- `gather` fills a window with the places of keys' texts. The loop's invariant: the first n stand there, and the others are those from k on.
use mathlib.Core.Path.{◌≡◌}
use Prim.Native.Nat.{◌-◌}
use lib.ListN.{length}
use Rattle.distinct.specs.Windows.{Gathering}
use Rattle.cutkeys.specs.Found.{Seeing, place_in}
use Rattle.cutkeys.specs.Content.{wholes_of}
use Rattle.cutkeys.proofs.windows.gather.Given as goal

abbrev pub invariant-loop-found : goal.invariant-loop-found
invariant-loop-found l = Gathering (wholes_of l.v) l.v.stored.now l.froms l.tos l.from l.n (place_in l.v.n l.found) × Seeing l.v.stored.now l.v.starts.now l.v.d l.v.n l.found × (length l.froms ≡ length l.initial.froms) × (length l.tos ≡ length l.initial.tos)

abbrev pub decreases-loop-found : goal.decreases-loop-found
decreases-loop-found l = l.v.n - place_in l.v.n l.found
