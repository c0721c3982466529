-- `feed` meets its contract.
use Rattle.judge.proofs.Looking.{ending}
use Rattle.judge.proofs.look.feed.Goals as goal

pub take-requires : goal.take-requires
take-requires c = search ending

pub returns : goal.returns
returns c = search ending
