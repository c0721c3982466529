-- `last_bytes` copies them one by one. The loop's invariant: the first i stand in the room.
use Rattle.views.specs.Contents.{all}
use Rattle.cutkeys.specs.CutsEnds.{Tail}
use Rattle.cutkeys.proofs.cuts.last_bytes.Given as goal

abbrev pub invariant-loop-i : goal.invariant-loop-i
invariant-loop-i l = Tail (all l.v) l.k l.i l.room
