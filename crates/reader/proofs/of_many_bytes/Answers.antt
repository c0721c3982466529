-- `of_many_bytes` answers as the pass over the document says, if the log had room for all keys.
use Rattle.reader.specs.Judged.{stopped_at}
use Rattle.reader.specs.Filling.{attempt_few, attempt_same, attempt_stop_same}
use Rattle.reader.specs.Lent.{passes_noted}
use borrow.Author.Rules.{rules}
use Rattle.reader.proofs.of_many_bytes.Goals as goal

pub returns-then-doc-gt-MANY : goal.returns-then-doc-gt-MANY
returns-then-doc-gt-MANY c = search (attempt_few, rules)

pub blame-requires : goal.blame-requires
blame-requires c = record { doc_len_bound = search rules; doc_value = search (stopped_at, rules) }

pub noted-requires : goal.noted-requires
noted-requires c = search (passes_noted, rules)

pub returns-in-Err : goal.returns-in-Err
returns-in-Err c = search (attempt_stop_same, rules)

pub returns-in-Ok : goal.returns-in-Ok
returns-in-Ok c = search (attempt_same, rules)
