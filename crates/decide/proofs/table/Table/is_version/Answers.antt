-- `is_version` tells the row of an array of 1 to 8 integers not below zero.
use Rattle.std.proofs.Common.{rules, tests, arith, refl, ◌+◌, ◌≡◌}
use Rattle.std.proofs.lemmas.Iterator.{cases_from_all, YieldsList-from_range}
use Rattle.decide.specs.Rows.{NaturalRow, kind_at}
use Rattle.decide.proofs.VersionLaws.{all_naturals, version_told}
use Rattle.decide.proofs.table.Table.is_version.Goals as goal

pub returns : goal.returns
returns c =
    let t = c.args.self.now.words.now in
    let room = c.args.self.now.room.now in
    let n = c.count-n.result in
    let k : kind_at t c.args.r ≡ 8 = grind (arith, tests) in
    let by_call = cases_from_all _ _ _ (NaturalRow t c.args.self.now.rows room) (λ i. NaturalRow t c.args.self.now.rows room i → ⊥) c.all.ensures.ran (YieldsList-from_range (c.args.r + 1) (c.args.r + 1 + n) n refl (omega arith)) (λ x q k. search (rules, tests)) (λ x q k. search (rules, tests)) in
    version_told t c.args.self.now.rows room c.args.r n c.count-n.ensures k c.if-n-eq0.false (omega arith) _ (all_naturals t c.args.self.now.rows room (c.args.r + 1) n _ by_call)
