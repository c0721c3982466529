-- What the check does not find alone of `squeeze`.
use Rattle.numbers.proofs.TextLaws.{squeeze_laws}
use Rattle.numbers.proofs.writing.squeeze.Goals as goal

pub loop-i-preserved : goal.loop-i-preserved
loop-i-preserved c = search squeeze_laws
