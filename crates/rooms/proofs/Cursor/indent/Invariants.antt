-- `Cursor::indent` counts the spaces that stand at the cursor, up to a number.
use mathlib.Core.Path.{◌≡◌}
use Prim.Native.Nat.{◌≤◌, ◌+◌, ◌-◌}
use lib.ListN.{length, drop}
use Rattle.exact.specs.Lines.{spaces}
use Rattle.rooms.proofs.Cursor.indent.Given as goal

abbrev pub invariant-loop-i : goal.invariant-loop-i
invariant-loop-i l = (spaces l.n (drop l.at l.doc) ≡ l.i + spaces (l.n - l.i) (drop (l.at + l.i) l.doc)) × (l.i ≤ l.n) × (l.at + l.i ≤ length l.doc)
