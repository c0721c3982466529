-- `sorted` gives the answer for n keys. The loop's invariant: none passed has an earlier one, and they stand in order.
use Rattle.std.proofs.Common.{rules}
use Rattle.places.specs.Joins.{sorting}
use Rattle.places.proofs.sorted.sorted.Goals as goal

pub returns-then-joined : goal.returns-then-joined
returns-then-joined c = search sorting

pub loop-i-preserved : goal.loop-i-preserved
loop-i-preserved c = (search sorting, search rules, search rules)

pub returns : goal.returns
returns c = search sorting
