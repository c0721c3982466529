-- `answer` meets its contract.
use borrow.Author.Rules.{rules}
use Rattle.answers.specs.Held.{answer_placed, answer_repeat, answer_rows, answer_bytes, answer_ranked, answer_all, answer_total, no_total}
use Rattle.answers.proofs.answer.Goals as goal

pub first_again-requires : goal.first_again-requires
first_again-requires c = search (answer_placed, rules)

pub returns-in-Some : goal.returns-in-Some
returns-in-Some c = search (answer_repeat, no_total, rules)

pub returns-then-table-n : goal.returns-then-table-n
returns-then-table-n c = search (answer_rows, no_total, rules)

pub returns-then-text-counts : goal.returns-then-text-counts
returns-then-text-counts c = search (answer_bytes, no_total, rules)

pub line_up-requires : goal.line_up-requires
line_up-requires c = answer_ranked _ _ _ _ _ _ _ c.requires c.first_again.result c.first_again.ensures c.args.table.now c.args.text.now c.if-table-n.false _ c.copy_words.ensures

pub returns : goal.returns
returns c = record { answered = answer_all _ _ _ _ _ _ _ c.requires c.first_again.result c.first_again.ensures _ _ c.if-table-n.false _ c.copy_words.ensures (search rules) c.if-text-counts.false _ _ c.line_up.ensures c.copy.ensures; totals = search (answer_total, rules) }
