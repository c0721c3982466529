-- `yay_store` answers as `store` does, by its number and its count.
use borrow.Author.Rules.{rules}
use Rattle.yay.proofs.Exporting.{stores_as}
use Rattle.yay.proofs.yay_store.Goals as goal

pub returns : goal.returns
returns c = search (stores_as, rules)
