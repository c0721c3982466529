-- `sieved` is as it promises. Assumes nothing.
use Rattle.reader.specs.Rounds.{sieving_short, sieving_swept}
use borrow.Author.Rules.{rules}
use Rattle.reader.proofs.rounds.sieved.Goals as goal

pub check-requires : goal.check-requires
check-requires c = search (sieving_short, sieving_swept, rules)

pub returns : goal.returns
returns c = search (sieving_short, sieving_swept, rules)
