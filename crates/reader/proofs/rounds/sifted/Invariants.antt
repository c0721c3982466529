-- `sifted` is as it promises. Assumes nothing.
use mathlib.Core.Path.{◌≡◌}
use Prim.Native.Nat.{◌-◌, ◌<◌}
use lib.ListN.{length}
use Rattle.reader.specs.Rounds.{Swept}
use Rattle.reader.proofs.rounds.sifted.Given as goal

abbrev pub invariant-loop-round : goal.invariant-loop-round
invariant-loop-round l = Swept l.doc l.keys l.round × (0 < l.round) × (l.round < 10) × (length l.keys ≡ length l.initial.keys)

abbrev pub decreases-loop-round : goal.decreases-loop-round
decreases-loop-round l = 10 - l.round
