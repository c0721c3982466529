-- `order` compares the texts of two places; where both are missing they are equal.
use Rattle.std.proofs.Common.{arith}
use Rattle.decide.specs.Deciding.{place_missing}
use Rattle.decide.proofs.VersionLaws.{order_missing}
use Rattle.decide.proofs.table.Table.order.Goals as goal

pub returns-then-max-i : goal.returns-then-max-i
returns-then-max-i c = order_missing _ _ (place_missing _ _ _ _ _ (omega arith)) (place_missing _ _ _ _ _ (omega arith))
