-- `noted` answers where the log had room for all keys, and else changes nothing.
use borrow.Author.Rules.{rules}
use Rattle.reader.specs.Filling.{attempt_few, attempt_done}
use Rattle.reader.specs.Lent.{noted_room, noted_passed, noted_placed, noted_repeated}
use Rattle.reader.proofs.noted.Goals as goal

pub log_word-requires : goal.log_word-requires
log_word-requires c = search (noted_room, rules)

pub returns-then-log_word-gt0 : goal.returns-then-log_word-gt0
returns-then-log_word-gt0 c = search (attempt_few, rules)

pub first_again-first-requires : goal.first_again-first-requires
first_again-first-requires c = search (noted_placed, rules)

pub filled-requires : goal.filled-requires
filled-requires c = (search (noted_passed, rules), search (noted_repeated, rules))

pub returns : goal.returns
returns c = search (attempt_done, rules)
