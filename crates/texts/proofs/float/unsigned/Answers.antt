-- `unsigned` tells a float that is a number and has no minus. Assumes nothing.
use Rattle.texts.specs.Places.{unsigned_word, unsigned_told}
use Rattle.texts.proofs.float.unsigned.Goals as goal

pub returns-then-word : goal.returns-then-word
returns-then-word g c = unsigned_word _ c.word.result c.word.ensures c.if-word.true

pub returns : goal.returns
returns g c = unsigned_told _ c.word.result c.word.ensures c.if-word.false c.decimal.result c.decimal.ensures
