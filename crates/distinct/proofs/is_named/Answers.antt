-- `is_named` tells whether a key has a text.
use Rattle.distinct.specs.Names.{numbered}
use Rattle.distinct.proofs.is_named.Goals as goal

pub same_text-requires : goal.same_text-requires
same_text-requires c = search numbered

pub returns : goal.returns
returns c = search numbered
