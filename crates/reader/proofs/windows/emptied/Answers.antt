-- `emptied` stores the first four words of the log. Assumes nothing.
use Rattle.reader.specs.Windows.{emptying}
use Rattle.reader.proofs.windows.emptied.Goals as goal

pub returns : goal.returns
returns c = search emptying
