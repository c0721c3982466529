-- `marked` meets its contract: the byte is one of five, or none of them.
use Rattle.inline.proofs.Choices.{marked_yes, marked_no}
use Rattle.inline.proofs.marked.Goals as goal

pub returns-in-34 : goal.returns-in-34
returns-in-34 c = marked_yes c.args.b c.in-34.is

pub returns-in_default : goal.returns-in_default
returns-in_default c = marked_no c.args.b c.in_default.in_default-own.rest.1
