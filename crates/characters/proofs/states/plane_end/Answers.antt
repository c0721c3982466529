-- `plane_end` answers where the character ends that has come to the state `plane_end`.
use Rattle.characters.proofs.Rests.{end_one, resting}
use Rattle.characters.proofs.states.plane_end.Goals as goal

pub returns-in-128-to-190 : goal.returns-in-128-to-190
returns-in-128-to-190 c = search (end_one, resting)
