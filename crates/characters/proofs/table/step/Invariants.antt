-- `step` answers the state that the table gives. The loop's invariant: no row before j fits.
use mathlib.Core.Path.{◌≡◌}
use Prim.Native.Nat.{◌*◌}
use lib.ListN.{drop}
use Rattle.utf8.specs.Scan.{find}
use Rattle.characters.proofs.table.step.Given as goal

abbrev pub invariant-loop-j : goal.invariant-loop-j
invariant-loop-j l = find l.table l.state l.b ≡ find (drop (4 * l.j) l.table) l.state l.b
