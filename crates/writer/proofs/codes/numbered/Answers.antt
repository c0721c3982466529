-- `numbered` writes a character by its number.
use Rattle.writer.specs.Codes.{numbering}
use borrow.Author.Rules.{rules}
use Rattle.writer.proofs.codes.numbered.Goals as goal

pub returns : goal.returns
returns c = search (numbering, rules)
