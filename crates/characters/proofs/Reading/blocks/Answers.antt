-- `Reading::blocks` passes over blocks of printable bytes.
use Rattle.characters.proofs.Lines.{smoothly}
use Rattle.characters.proofs.Reading.blocks.Goals as goal

pub loop-n-preserved : goal.loop-n-preserved
loop-n-preserved c = search smoothly
