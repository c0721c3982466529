-- `yay_load` answers as `load` does, by its number and its values.
use borrow.Author.Rules.{rules}
use Rattle.yay.proofs.Exporting.{loads_as}
use Rattle.yay.proofs.yay_load.Goals as goal

pub returns : goal.returns
returns c = search (loads_as, rules)
