-- `behind` answers as the reader of what stands behind a backslash in double quotes does.
use Rattle.strings.proofs.EscapeLaws.{lettering_on}
use Rattle.strings.proofs.escapes.behind.Goals as goal

pub returns-in-None : goal.returns-in-None
returns-in-None c = search lettering_on
