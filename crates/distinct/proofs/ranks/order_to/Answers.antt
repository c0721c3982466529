-- `order_to` tells how a text stands to that of a key.
use Rattle.distinct.specs.Ranks.{telling}
use Rattle.distinct.proofs.ranks.order_to.Goals as goal

pub texts_order-requires : goal.texts_order-requires
texts_order-requires c = search telling

pub returns : goal.returns
returns c = search telling
