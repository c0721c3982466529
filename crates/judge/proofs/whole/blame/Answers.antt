-- `blame` meets its contract: the number of a refusal.
use Rattle.judge.proofs.Documents.{blaming}
use Rattle.judge.proofs.whole.blame.Goals as goal

pub returns-then-doc-p : goal.returns-then-doc-p
returns-then-doc-p c = record { blamed = search blaming; rows_unchanged = search blaming }

pub returns-in-Err : goal.returns-in-Err
returns-in-Err c = record { blamed = search blaming; rows_unchanged = search blaming }

pub returns-in-Err-2 : goal.returns-in-Err-2
returns-in-Err-2 c = record { blamed = search blaming; rows_unchanged = search blaming }

pub returns-in-Ok : goal.returns-in-Ok
returns-in-Ok c = record { blamed = search blaming; rows_unchanged = search blaming }

pub returns-in-Err-3 : goal.returns-in-Err-3
returns-in-Err-3 c = record { blamed = search blaming; rows_unchanged = search blaming }
