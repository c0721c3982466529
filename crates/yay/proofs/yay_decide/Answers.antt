-- `yay_decide` answers as `decide` does, by its number and its decision.
use borrow.Author.Rules.{rules}
use Rattle.yay.proofs.Exporting.{decides_as}
use Rattle.yay.proofs.yay_decide.Goals as goal

pub returns : goal.returns
returns c = search (decides_as, rules)
