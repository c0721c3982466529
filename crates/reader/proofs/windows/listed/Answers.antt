-- `listed` is as it promises. Assumes nothing.
use Rattle.reader.specs.Windows.{listing}
use Rattle.reader.proofs.windows.listed.Goals as goal

pub window-p-requires : goal.window-p-requires
window-p-requires c = search listing

pub returns-then-p-lt-LIMIT : goal.returns-then-p-lt-LIMIT
returns-then-p-lt-LIMIT c = search listing

pub log_word-requires : goal.log_word-requires
log_word-requires c = search listing

pub returns-then-log_word-lt1 : goal.returns-then-log_word-lt1
returns-then-log_word-lt1 c = search listing

pub behind-requires : goal.behind-requires
behind-requires c = search listing

pub returns : goal.returns
returns c = search listing
