-- `whole` answers where a character of several bytes ends.
use Rattle.characters.proofs.Rests.{start_one, resting}
use Rattle.characters.proofs.states.whole.Goals as goal

pub returns-in-195-to-223 : goal.returns-in-195-to-223
returns-in-195-to-223 c = search (start_one, resting)
