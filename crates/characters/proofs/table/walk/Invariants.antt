-- `walk` answers where the character ends, or the byte that refuses it. The loop's invariant: on the way through a character's bytes.
use Prim.Native.Nat.{◌≤◌}
use lib.ListN.{length}
use Rattle.characters.specs.Going.{Going}
use Rattle.characters.proofs.table.walk.Given as goal

abbrev pub invariant-loop-i : goal.invariant-loop-i
invariant-loop-i l = Going l.doc l.at l.i l.state × (l.i ≤ length l.doc)
