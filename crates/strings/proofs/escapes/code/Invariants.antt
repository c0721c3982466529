-- `code` answers the scalar value that the digits name. The loop's invariant: those up to e make v.
use Prim.Native.Nat.{◌+◌, ◌-◌}
use Rattle.strings.specs.Contract.{Digits}
use Rattle.strings.proofs.escapes.code.Given as goal

abbrev pub invariant-loop-e : goal.invariant-loop-e
invariant-loop-e l = Digits l.doc l.at.at l.e.at l.v

abbrev pub decreases-loop-e : goal.decreases-loop-e
decreases-loop-e l = l.at.at + 5 - l.e.at
