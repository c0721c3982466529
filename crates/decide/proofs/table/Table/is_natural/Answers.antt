-- `is_natural` tells the row of an integer not below zero.
use Rattle.std.proofs.Common.{tests, ◌≡◌, arith}
use Rattle.decide.specs.Rows.{kind_at}
use Rattle.decide.proofs.VersionLaws.{natural_told, natural_not_told}
use Rattle.decide.proofs.table.Table.is_natural.Goals as goal

pub returns-in-Ok : goal.returns-in-Ok
returns-in-Ok c =
    let k : kind_at c.args.self.now.words.now c.args.r ≡ 4 = grind (arith, tests) in
    rw c.is_ge.ensures (natural_told _ _ _ _ _ c.text.ensures (omega arith) k c.in-Ok.order c.in-Ok.ensures)

pub returns-in-Err : goal.returns-in-Err
returns-in-Err c = natural_not_told _ _ _ _ _ c.text.ensures c.in-Err.ensures
