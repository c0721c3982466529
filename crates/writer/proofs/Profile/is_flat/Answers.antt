-- `is_flat` tells a row that has no rows below it.
use Rattle.writer.specs.Lines.{flat_word}
use Rattle.writer.proofs.Profile.is_flat.Goals as goal

pub returns : goal.returns
returns c = λ h. flat_word h c.word.ensures
