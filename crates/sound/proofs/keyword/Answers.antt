-- `keyword` tells a null, false or true by its words.
use Rattle.sound.proofs.RowLaws.{keywording}
use Rattle.sound.proofs.keyword.Goals as goal

pub returns : goal.returns
returns c = search keywording
