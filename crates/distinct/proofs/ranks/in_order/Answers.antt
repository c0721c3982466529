-- `in_order` tells where a text belongs. The loop's invariant: behind the first lo, and before those from hi on.
use borrow.Author.Rules.{rules}
use Rattle.distinct.specs.Ranks.{find_above, finding}
use Rattle.distinct.proofs.ranks.in_order.Goals as goal

pub loop-lo-init : goal.loop-lo-init
loop-lo-init c = search finding

pub overflow_add-mid : goal.overflow_add-mid
overflow_add-mid c = search finding

pub word-k-requires : goal.word-k-requires
word-k-requires c = search finding

pub order_to-requires : goal.order_to-requires
order_to-requires c = search finding

pub enum_told-1 : goal.enum_told-1
enum_told-1 c = search finding

pub loop-lo-smaller-in-Less : goal.loop-lo-smaller-in-Less
loop-lo-smaller-in-Less c = search finding

pub loop-lo-preserved-in-Less : goal.loop-lo-preserved-in-Less
loop-lo-preserved-in-Less c = search finding

pub enum_told-in-Equal : goal.enum_told-in-Equal
enum_told-in-Equal c = search finding

pub returns-in-Equal : goal.returns-in-Equal
returns-in-Equal c = search finding

pub enum_told-in-Greater : goal.enum_told-in-Greater
enum_told-in-Greater c = search finding

pub overflow_add-lo : goal.overflow_add-lo
overflow_add-lo c = search finding

pub loop-lo-smaller : goal.loop-lo-smaller
loop-lo-smaller c = search finding

pub loop-lo-preserved : goal.loop-lo-preserved
loop-lo-preserved c = search (find_above, rules)

pub returns : goal.returns
returns c = search finding
