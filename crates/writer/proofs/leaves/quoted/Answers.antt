-- `quoted` writes a string in double quotes.
use Rattle.writer.specs.Puts.{enclosing}
use borrow.Author.Rules.{rules}
use Rattle.writer.proofs.leaves.quoted.Goals as goal

pub returns : goal.returns
returns c = search (enclosing, rules)
