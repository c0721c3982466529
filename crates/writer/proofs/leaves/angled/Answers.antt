-- `angled` writes bytes between angles.
use Rattle.writer.specs.Puts.{enclosing}
use Rattle.writer.specs.Leaves.{pairs_room}
use borrow.Author.Rules.{rules}
use Rattle.writer.proofs.leaves.angled.Goals as goal

pub hex_pairs-b-requires : goal.hex_pairs-b-requires
hex_pairs-b-requires c = search (pairs_room, rules)

pub returns : goal.returns
returns c = search (enclosing, rules)
