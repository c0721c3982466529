-- `whole_text` compares where the last byte of the head and that of the text stand.
use Rattle.cutkeys.specs.Whole.{text_asked, naming}
use borrow.Author.Rules.{rules}
use Rattle.cutkeys.proofs.keys.whole_text.Goals as goal

pub overflow_add-a : goal.overflow_add-a
overflow_add-a c = let k = text_asked c.args.v.content c.args.at c.args.n c.requires in search (k, naming, rules)

pub overflow_add-result : goal.overflow_add-result
overflow_add-result c = let k = text_asked c.args.v.content c.args.at c.args.n c.requires in search (k, naming, rules)

pub overflow_add-result-then-e-a : goal.overflow_add-result-then-e-a
overflow_add-result-then-e-a c = let k = text_asked c.args.v.content c.args.at c.args.n c.requires in search (k, naming, rules)

pub returns-then-e-a : goal.returns-then-e-a
returns-then-e-a c = let k = text_asked c.args.v.content c.args.at c.args.n c.requires in search (k, naming, rules)

pub returns : goal.returns
returns c = let k = text_asked c.args.v.content c.args.at c.args.n c.requires in search (k, naming, rules)
