-- `lines` counts, where there is more than one. Assumes nothing.
use Rattle.lined.specs.Searching.{lines_one}
use borrow.Author.Rules.{rules}
use Rattle.lined.proofs.lines.Goals as goal

pub returns-then-start-a : goal.returns-then-start-a
returns-then-start-a c = search (lines_one, rules)
