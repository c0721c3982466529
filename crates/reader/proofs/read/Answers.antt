-- `read` meets the promise.
use borrow.Author.Rules.{rules}
use Rattle.reader.specs.Judged.{answer_long, no_total}
use Rattle.reader.specs.Filling.{tried_answer, tried_again, tried_total}
use Rattle.reader.proofs.read.Goals as goal

pub returns-then-doc-gt-LIMIT : goal.returns-then-doc-gt-LIMIT
returns-then-doc-gt-LIMIT c = record { answered = search (answer_long, rules); totals = search (no_total, rules) }

pub returns-in-Some : goal.returns-in-Some
returns-in-Some c = record { answered = search (tried_answer, tried_again, rules); totals = search (tried_total, rules) }

pub returns-in-Some-of_many_bytes : goal.returns-in-Some-of_many_bytes
returns-in-Some-of_many_bytes c = record { answered = search (tried_answer, tried_again, rules); totals = search (tried_total, rules) }

pub returns : goal.returns
returns c = record { answered = search (tried_answer, tried_again, rules); totals = search (tried_total, rules) }
