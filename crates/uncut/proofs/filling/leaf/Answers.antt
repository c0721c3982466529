-- `leaf` stores the row of a scalar or a key, and its text.
use Rattle.uncut.proofs.FillLaws.{leaf_filling}
use Rattle.uncut.proofs.filling.leaf.Goals as goal

pub place-requires : goal.place-requires
place-requires c = search leaf_filling

pub returns-then-stored-at-lt4 : goal.returns-then-stored-at-lt4
returns-then-stored-at-lt4 c = λ h. search leaf_filling

pub overflow_sub-y : goal.overflow_sub-y
overflow_sub-y c = search leaf_filling

pub overflow_add-y-2 : goal.overflow_add-y-2
overflow_add-y-2 c = search leaf_filling

pub place-requires-2 : goal.place-requires-2
place-requires-2 c = search leaf_filling

pub part-requires : goal.part-requires
part-requires c = search leaf_filling

pub returns : goal.returns
returns c = λ h. search leaf_filling
