-- `gather_short` copies the texts of short keys that are cut. The loop's invariant: the first n stand in the room before x, and the others are those from k on.
use mathlib.Core.Path.{◌≡◌}
use Prim.Native.Nat.{◌-◌}
use lib.ListN.{length}
use Rattle.cutkeys.specs.Shorts.{short_in, SeeingShort}
use Rattle.cutkeys.specs.Copies.{Copying}
use Rattle.cutkeys.proofs.copies.gather_short.Given as goal

abbrev pub invariant-loop-found : goal.invariant-loop-found
invariant-loop-found l = Copying l.v.stored.now l.v.starts.now l.v.d l.v.n l.room l.froms l.tos l.n l.x (short_in l.v.n l.found) × SeeingShort l.v.stored.now l.v.starts.now l.v.d l.v.n l.found × (length l.room ≡ length l.initial.room) × (length l.froms ≡ length l.initial.froms) × (length l.tos ≡ length l.initial.tos)

abbrev pub decreases-loop-found : goal.decreases-loop-found
decreases-loop-found l = l.v.n - short_in l.v.n l.found
