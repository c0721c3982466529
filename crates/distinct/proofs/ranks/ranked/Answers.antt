-- `ranked` tells whether an earlier key has the same text; if none has, the i-th takes its place in the order.
use Rattle.distinct.specs.Ranks.{joining}
use Rattle.distinct.proofs.ranks.ranked.Goals as goal

pub place_at-a-requires : goal.place_at-a-requires
place_at-a-requires c = search joining

pub place_at-e-requires : goal.place_at-e-requires
place_at-e-requires c = search joining

pub in_order-requires : goal.in_order-requires
in_order-requires c = search joining

pub insert-requires : goal.insert-requires
insert-requires c = (search joining, search joining, search joining)

pub returns-in-Ok : goal.returns-in-Ok
returns-in-Ok c = search joining

pub returns-in-Err : goal.returns-in-Err
returns-in-Err c = search joining
