-- `left` answers as the reader of what is left of a string does. The loop's invariant: that is what stands before n, stored, and what is left from n on.
use Prim.Native.Nat.{◌-◌}
use mathlib.Core.Path.{◌≡◌}
use lib.ListN.{length}
use Rattle.strings.proofs.StringLaws.{Inside}
use Rattle.strings.proofs.quotes.left.Given as goal

abbrev pub invariant-loop-m : goal.invariant-loop-m
invariant-loop-m l = Inside l.quote l.doc l.initial.n l.n l.initial.text l.text × (length l.text ≡ length l.initial.text)

abbrev pub decreases-loop-m : goal.decreases-loop-m
decreases-loop-m l = length l.doc - l.n.at
