-- `comments` meets its contract. The loop's invariant: some comments were read, and the others are read from the cursor. The measure is what is left of the document.
use Prim.Native.Nat.{◌-◌}
use lib.ListN.{length}
use Rattle.judge.proofs.Documents.{Headed}
use Rattle.judge.proofs.whole.comments.Given as goal

abbrev pub invariant-loop-c : goal.invariant-loop-c
invariant-loop-c l = Headed l.doc l.c.at

abbrev pub decreases-loop-c : goal.decreases-loop-c
decreases-loop-c l = length l.doc - l.c.at
