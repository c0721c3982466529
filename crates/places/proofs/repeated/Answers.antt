-- `repeated` gives the answer for n keys. The loop's invariant: none passed has an earlier one, and they stand in the chains.
use Rattle.std.proofs.Common.{rules}
use Rattle.places.specs.Walks.{passed_met, passed_more, passing}
use Rattle.places.proofs.repeated.Goals as goal

pub returns-in-Ok-true : goal.returns-in-Ok-true
returns-in-Ok-true c =
    passed_met _ _ _ _ _ _ _ c.loop-i.invariant.0 _ _ _ _ c.in-Ok-true.ensures c.loop-i-test.true _ c.in-Ok-true.field-0-test c.place_of.ensures

pub loop-i-preserved : goal.loop-i-preserved
loop-i-preserved c =
    (passed_more _ _ _ _ _ _ _ c.loop-i.invariant.0 _ _ _ _ c.in-Ok-false.ensures c.loop-i-test.true c.in-Ok-false.field-0-test c.chained.auto.links c.chained.auto.marks, search rules, search rules, search rules)

pub returns : goal.returns
returns c = search passing
