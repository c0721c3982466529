-- `line_value` meets its contract: a cursor made anew is the same.
use borrow.Author.Rules.{rules}
use Rattle.inline.proofs.line_value.Goals as goal

pub value_here-requires : goal.value_here-requires
value_here-requires c = rw c.anew.ensures (search rules)

pub returns : goal.returns
returns c = rw (← c.anew.ensures) c.value_here.ensures
