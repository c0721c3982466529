-- `Reading::smooth` answers where the pieces of printable bytes end. The loop's invariant: those up to `last` are read, and there are spaces up to i.
use mathlib.Core.Path.{◌≡◌}
use Prim.Native.Nat.{◌≤◌}
use lib.ListN.{length}
use Rattle.exact.specs.Class.{only}
use Rattle.exact.specs.Place.{run_end}
use Rattle.characters.specs.Pieces.{Smooth}
use Rattle.characters.proofs.Reading.smooth.Given as goal

abbrev pub invariant-loop-i : goal.invariant-loop-i
invariant-loop-i l = Smooth l.doc l.initial.i l.last × (run_end (only 32) l.doc l.last ≡ run_end (only 32) l.doc l.i) × (l.last ≤ l.i) × (l.i ≤ length l.doc)
