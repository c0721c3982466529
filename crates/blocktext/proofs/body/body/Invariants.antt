-- `body` meets its contract: up to a its lines were read.
use Prim.Native.Nat.{◌-◌}
use lib.ListN.{length}
use Rattle.blocktext.proofs.BodyLaws.{Bodying}
use Rattle.blocktext.proofs.body.body.Given as goal

abbrev pub invariant-loop-n : goal.invariant-loop-n
invariant-loop-n l = Bodying l.doc l.e l.col l.a l.last l.least

abbrev pub decreases-loop-n : goal.decreases-loop-n
decreases-loop-n l = length l.doc - l.a
