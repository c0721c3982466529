-- `of_any_bytes` answers as the pass over the document says.
use Rattle.reader.specs.Judged.{stopped_at, answer_stop_same, answer_same, stop_total}
use Rattle.reader.specs.Lent.{passes, passes_sieved}
use borrow.Author.Rules.{rules}
use Rattle.reader.proofs.of_any_bytes.Goals as goal

pub blame-requires : goal.blame-requires
blame-requires c = record { doc_len_bound = search rules; doc_value = search (stopped_at, rules) }

pub sieved-requires : goal.sieved-requires
sieved-requires c = (search (passes, rules), search (passes_sieved, rules))

pub returns-in-Err : goal.returns-in-Err
returns-in-Err c = record { answered = search (answer_stop_same, rules); totals = search (stop_total, rules) }

pub returns-in-Ok : goal.returns-in-Ok
returns-in-Ok c = record { answered = search (answer_same, rules); totals = search rules }
