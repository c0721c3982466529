-- `Reading::pieces` answers as `pieces_r` does. The loop's invariant: the pieces up to n are read.
use Prim.Native.Nat.{◌-◌}
use lib.ListN.{length}
use Rattle.characters.specs.Pieces.{Smooth}
use Rattle.characters.proofs.Reading.pieces.Given as goal

abbrev pub invariant-loop-n : goal.invariant-loop-n
invariant-loop-n l = Smooth l.doc l.initial.n.at l.n.at

abbrev pub decreases-loop-n : goal.decreases-loop-n
decreases-loop-n l = length l.doc - l.n.at
