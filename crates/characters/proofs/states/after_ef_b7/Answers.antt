-- `after_ef_b7` answers where the character ends that has come to the state `after_ef_b7`.
use Rattle.characters.proofs.Rests.{b7_low, b7_high, resting}
use Rattle.characters.proofs.states.after_ef_b7.Goals as goal

pub returns-in-128-to-143 : goal.returns-in-128-to-143
returns-in-128-to-143 c = search (b7_low, resting)

pub returns-in-176-to-191 : goal.returns-in-176-to-191
returns-in-176-to-191 c = search (b7_high, resting)
