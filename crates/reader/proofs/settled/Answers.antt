-- `settled` answers where the rows and the log have room, and else changes nothing.
use borrow.Author.Rules.{rules}
use Rattle.reader.specs.Filling.{attempt_few, attempt_done, read_holds, read_four}
use Rattle.reader.proofs.settled.Goals as goal

pub returns-then-rows-counts : goal.returns-then-rows-counts
returns-then-rows-counts c = search (attempt_few, rules)

pub log_word-requires : goal.log_word-requires
log_word-requires c = search (read_four, rules)

pub returns-then-log_word-gt0 : goal.returns-then-log_word-gt0
returns-then-log_word-gt0 c = search (attempt_few, rules)

pub answer-requires : goal.answer-requires
answer-requires c = search (read_holds, rules)

pub returns : goal.returns
returns c = search (attempt_done, rules)
