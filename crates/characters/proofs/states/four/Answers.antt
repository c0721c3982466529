-- `four` answers where a character of four bytes ends.
use Rattle.characters.proofs.Rests.{start_f1, resting}
use Rattle.characters.proofs.states.four.Goals as goal

pub returns-in-241-to-243 : goal.returns-in-241-to-243
returns-in-241-to-243 c = search (start_f1, resting)
