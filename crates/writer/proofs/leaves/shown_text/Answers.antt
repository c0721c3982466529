-- `shown_text` writes the characters of a text, step by step.
use Rattle.writer.specs.Leaves.{showing_all}
use borrow.Author.Rules.{rules}
use Rattle.writer.proofs.leaves.shown_text.Goals as goal

pub loop-at-preserved : goal.loop-at-preserved
loop-at-preserved c = search (showing_all, rules)

pub returns : goal.returns
returns c = search (showing_all, rules)
