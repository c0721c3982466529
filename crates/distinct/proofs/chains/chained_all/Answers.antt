-- `chained_all` puts all keys of the window into chains. The loop's invariant: none passed has the text of an earlier one, and they stand in the chains.
use borrow.Author.Rules.{rules}
use Rattle.distinct.specs.Chains.{passed_none, passing}
use Rattle.distinct.proofs.chains.chained_all.Goals as goal

pub returns-in_err-chained : goal.returns-in_err-chained
returns-in_err-chained c = search passing

pub returns-then-is_some : goal.returns-then-is_some
returns-then-is_some c = search passing

pub loop-i-preserved : goal.loop-i-preserved
loop-i-preserved c =
    (passed_none _ _ _ _ _ _ _ c.loop-i.invariant.0 _ _ _ c.in_ok-chained.ensures c.loop-i-test.true _ c.is_some.ensures c.if-is_some.false c.chained.auto.links, search rules, search rules)

pub returns : goal.returns
returns c = search passing
