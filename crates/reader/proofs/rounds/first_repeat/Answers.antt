-- `first_repeat` is as it promises. Assumes nothing.
use Rattle.reader.specs.Rounds.{doubled_repeated}
use borrow.Author.Rules.{rules}
use Rattle.reader.proofs.rounds.first_repeat.Goals as goal

pub sifted-requires : goal.sifted-requires
sifted-requires c = search (doubled_repeated, rules)

pub returns : goal.returns
returns c = search (doubled_repeated, rules)
