-- `word` reads a word of a row.
use Rattle.std.proofs.Common.{rules}
use Rattle.questions.specs.Table.{word}
use Rattle.questions.proofs.table.word.Goals as goal

pub returns : goal.returns
unfolding word
returns c = search rules
