-- `good` tells a good row: with the row below the rows that the table counts for, no product can wrap.
use Rattle.std.proofs.Common.{rules}
use Rattle.questions.proofs.RowLaws.{good_below, good_past}
use Rattle.questions.proofs.table.good.Goals as goal

pub returns-then-r-rows : goal.returns-then-r-rows
returns-then-r-rows c = search (rules, good_below)

pub returns-else-r-rows : goal.returns-else-r-rows
returns-else-r-rows c = search (rules, good_past)
