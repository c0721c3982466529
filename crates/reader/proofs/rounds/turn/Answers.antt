-- `turn` is as it promises. Assumes nothing.
use Rattle.reader.specs.Rounds.{turning}
use Rattle.reader.proofs.rounds.turn.Goals as goal

pub copied-requires : goal.copied-requires
copied-requires c = search turning

pub wiped-requires : goal.wiped-requires
wiped-requires c = search turning

pub returns : goal.returns
returns c = search turning
