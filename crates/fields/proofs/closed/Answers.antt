-- `closed` puts the head of a content before it, or spreads it into its parts.
use borrow.Author.Rules.{rules}
use Rattle.fields.specs.Spread.{closing}
use Rattle.fields.proofs.closed.Goals as goal

pub returns-then-n-le-WIDEST : goal.returns-then-n-le-WIDEST
returns-then-n-le-WIDEST c = search (closing, rules)

pub returns : goal.returns
returns c = search (closing, rules)
