-- `Reading::printable` tells whether a block of printable bytes stands there. The loop's invariant: where `all` is true, those before i are.
use mathlib.Core.Path.{◌≡◌}
use mathlib.Core.Bool.{true}
use Prim.Native.Nat.{◌+◌}
use Rattle.characters.specs.Pieces.{Printable}
use Rattle.characters.proofs.Reading.printable.Given as goal

abbrev pub invariant-loop-i : goal.invariant-loop-i
invariant-loop-i l = l.all ≡ true → Printable l.doc l.at (l.at + l.i)
