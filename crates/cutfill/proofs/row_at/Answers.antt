-- `row_at` writes a row.
use Rattle.cutfill.proofs.Laws.{rowing}
use Rattle.cutfill.proofs.row_at.Goals as goal

pub overflow_add-place : goal.overflow_add-place
overflow_add-place c = search rowing

pub row_of-w-requires : goal.row_of-w-requires
row_of-w-requires c = search rowing

pub returns : goal.returns
returns c = search rowing
