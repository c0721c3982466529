-- `behind` goes on by half a log of keys until one has a repeated key, or none are left. Assumes nothing.
use Rattle.reader.specs.Windows.{behind_on, going}
use borrow.Author.Rules.{rules}
use Rattle.reader.proofs.windows.behind.Goals as goal

pub across-p-requires : goal.across-p-requires
across-p-requires c = search going

pub returns-then-p-lt-LIMIT : goal.returns-then-p-lt-LIMIT
returns-then-p-lt-LIMIT c = search going

pub log_word-requires : goal.log_word-requires
log_word-requires c = search going

pub returns-then-log_word-lt1 : goal.returns-then-log_word-lt1
returns-then-log_word-lt1 c = search going

pub loop-j-smaller : goal.loop-j-smaller
loop-j-smaller c = search going

pub loop-j-preserved : goal.loop-j-preserved
loop-j-preserved c =
    let on = behind_on _ _ _ _ c.loop-j.invariant.0 _ _ c.across-p.ensures in
    (search (on, rules), search rules)
