-- `parts` spreads a content into its parts, the last first.
use mathlib.Core.Path.{◌≡◌}
use Prim.Native.Nat.{◌-◌}
use lib.ListN.{length}
use Rattle.fields.specs.Spread.{Spread}
use Rattle.fields.proofs.parts.Given as goal

abbrev pub invariant-loop-k : goal.invariant-loop-k
invariant-loop-k l = Spread l.fn.out l.x l.kind l.n (l.k - 1) 11 65535 l.out × (length l.out ≡ length l.initial.out)
