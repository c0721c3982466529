-- `after_ef` answers where the character ends that has come to the state `after_ef`.
use Rattle.characters.proofs.Rests.{ef_one, resting}
use Rattle.characters.proofs.states.after_ef.Goals as goal

pub returns-in-128-to-190 : goal.returns-in-128-to-190
returns-in-128-to-190 c = search (ef_one, resting)
