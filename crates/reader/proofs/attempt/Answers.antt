-- `attempt` answers as the pass over the document says, if the rows have room.
use Rattle.reader.specs.Filling.{attempt_stop, reads}
use Rattle.reader.specs.Judged.{stopped_at}
use borrow.Author.Rules.{rules}
use Rattle.reader.proofs.attempt.Goals as goal

pub blame-requires : goal.blame-requires
blame-requires c = record { doc_len_bound = search rules; doc_value = search (stopped_at, rules) }

pub settled-requires : goal.settled-requires
settled-requires c = search (reads, rules)

pub returns-in-Err : goal.returns-in-Err
returns-in-Err c = search (attempt_stop, rules)
