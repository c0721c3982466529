-- `ordered` orders two integers' texts by their signs, and below zero the other way round.
use Rattle.std.proofs.Common.{ap₂, ◌∙◌}
use Rattle.integers.specs.Contract.{by_size}
use Rattle.integers.proofs.OrderLaws.{order_minuses, order_lesser, order_greater, order_plains}
use Rattle.integers.proofs.comparing.ordered.Goals as goal

pub returns-in-Some-Some : goal.returns-in-Some-Some
returns-in-Some-Some c =
    let a = c.in-Some-Some.ensures.cases in
    let b = c.in-Some-Some.ensures'.cases in
    order_minuses _ _ c.requires a.0 b.0 _ (c.by_size.ensures ∙ ap₂ by_size b.1 a.1)

pub returns-in-Some-None : goal.returns-in-Some-None
returns-in-Some-None c = order_lesser _ _ c.requires c.in-Some-None.ensures.cases.0 c.in-Some-None.ensures'.cases

pub returns-in-None-Some : goal.returns-in-None-Some
returns-in-None-Some c = order_greater _ _ c.requires c.in-None-Some.ensures.cases c.in-None-Some.ensures'.cases.0

pub returns-in-None-None : goal.returns-in-None-None
returns-in-None-None c = order_plains _ _ c.requires c.in-None-None.ensures.cases c.in-None-None.ensures'.cases _ c.by_size-in-None-None.ensures
