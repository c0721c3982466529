-- `Reading::smooth` passes over printable bytes of ASCII.
use Rattle.characters.proofs.Lines.{smoothly}
use Rattle.characters.proofs.Reading.smooth.Goals as goal
use Rattle.characters.proofs.Reading.smooth.Goals.{then-b-ne32, else-b-ne32}

pub loop-i-preserved : goal.loop-i-preserved
loop-i-preserved c = elim c.if-b-ne32.branch [ then-b-ne32 w ↦ rw w.last-is (search smoothly) | else-b-ne32 w ↦ rw w.last-is (search smoothly) ]
