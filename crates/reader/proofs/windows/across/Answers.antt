-- `across` looks half a log of keys through beside every half before it. Assumes nothing.
use Rattle.reader.specs.Windows.{crossing}
use borrow.Author.Rules.{rules}
use Rattle.reader.proofs.windows.across.Goals as goal

pub window-requires : goal.window-requires
window-requires c = search crossing

pub loop-k-preserved : goal.loop-k-preserved
loop-k-preserved c = (search crossing, search rules)

pub returns : goal.returns
returns c = search crossing
