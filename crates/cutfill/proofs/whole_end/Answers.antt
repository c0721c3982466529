-- `whole_end` goes from head to head.
use borrow.Author.Rules.{rules}
use Rattle.cutfill.specs.Wholes.{chain_head, chaining}
use Rattle.cutfill.proofs.whole_end.Goals as goal

pub loop-e-init : goal.loop-e-init
loop-e-init c = search (chaining, rules)

pub is_field-requires : goal.is_field-requires
is_field-requires c = search (chaining, rules)

pub behind-e-requires : goal.behind-e-requires
behind-e-requires c = chain_head _ _ c.loop-e.invariant _ c.is_field.ensures c.loop-e-test.true c.requires

pub loop-e-smaller : goal.loop-e-smaller
loop-e-smaller c = search (chaining, rules)

pub loop-e-preserved : goal.loop-e-preserved
loop-e-preserved c = search (chaining, rules)

pub returns : goal.returns
returns c = search (chaining, rules)
