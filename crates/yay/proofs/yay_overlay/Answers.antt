-- `yay_overlay` answers as `overlay` does, by its number and its two values.
use borrow.Author.Rules.{rules}
use Rattle.yay.proofs.Exporting.{overlays_as}
use Rattle.yay.proofs.yay_overlay.Goals as goal

pub returns : goal.returns
returns c = search (overlays_as, rules)
