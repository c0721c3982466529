-- `kind_of` reads a row's kind.
use Rattle.std.proofs.Common.{rules}
use Rattle.questions.specs.Table.{word}
use Rattle.questions.proofs.table.kind_of.Goals as goal

pub returns : goal.returns
unfolding word
returns c = search rules
