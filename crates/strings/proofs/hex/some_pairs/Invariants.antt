-- `some_pairs` meets its contract.
use Prim.Native.Nat.{◌-◌}
use mathlib.Core.Path.{◌≡◌}
use mathlib.Core.Bool.{true}
use lib.ListN.{length}
use Rattle.exact.specs.Class.{is}
use Rattle.exact.specs.Place.{peek}
use Rattle.language.specs.Strings.{lowhex}
use Rattle.strings.proofs.PairsLaws.{Pairing}
use Rattle.strings.proofs.hex.some_pairs.Given as goal

abbrev pub invariant-loop-m : goal.invariant-loop-m
invariant-loop-m l = Pairing l.doc l.initial.n l.n l.initial.text l.text × (length l.text ≡ length l.initial.text) × (is lowhex (peek l.doc l.n.at) ≡ true)

abbrev pub decreases-loop-m : goal.decreases-loop-m
decreases-loop-m l = length l.doc - l.n.at
