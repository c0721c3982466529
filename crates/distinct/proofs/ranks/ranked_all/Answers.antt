-- `ranked_all` puts all keys of the window in order. The loop's invariant: none passed has the text of an earlier one, and they stand in order.
use borrow.Author.Rules.{rules}
use Rattle.distinct.specs.Ranks.{sorting}
use Rattle.distinct.proofs.ranks.ranked_all.Goals as goal

pub loop-i-init : goal.loop-i-init
loop-i-init c = search sorting

pub ranked-requires : goal.ranked-requires
ranked-requires c = search sorting

pub shape_of-order-then-ranked : goal.shape_of-order-then-ranked
shape_of-order-then-ranked c = search sorting

pub returns-then-ranked : goal.returns-then-ranked
returns-then-ranked c = search sorting

pub loop-i-preserved : goal.loop-i-preserved
loop-i-preserved c = (search sorting, search rules)

pub shape_of-order : goal.shape_of-order
shape_of-order c = search sorting

pub returns : goal.returns
returns c = search sorting
