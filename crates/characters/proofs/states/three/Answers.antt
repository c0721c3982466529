-- `three` answers where a character of three bytes ends.
use Rattle.characters.proofs.Rests.{start_two, resting}
use Rattle.characters.proofs.states.three.Goals as goal

pub returns-in-225-to-236 : goal.returns-in-225-to-236
returns-in-225-to-236 c = search (start_two, resting)
