-- `begin` stands before the whole text of a key.
use Rattle.spelt.specs.Spelling.{beginning}
use Rattle.spelt.proofs.spelling.begin.Goals as goal

pub returns-in-34 : goal.returns-in-34
returns-in-34 c = rw c.text_at.ensures (search beginning)

pub returns-in-39 : goal.returns-in-39
returns-in-39 c = rw c.text_at-in-39.ensures (search beginning)

pub returns-in_default : goal.returns-in_default
returns-in_default c = rw c.text_at-in_default.ensures (search beginning)
