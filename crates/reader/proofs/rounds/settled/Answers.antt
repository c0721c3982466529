-- `settled` is as it promises. Assumes nothing.
use Rattle.reader.specs.Rounds.{settling}
use Rattle.reader.proofs.rounds.settled.Goals as goal

pub turn-requires : goal.turn-requires
turn-requires c = search settling

pub listed-requires : goal.listed-requires
listed-requires c = search settling

pub returns : goal.returns
returns c = search settling
