-- `sift` notes or sieves a key that passes the filter. Assumes nothing.
use Rattle.notes.specs.Handed.{sifting}
use Rattle.notes.proofs.sift.Goals as goal

pub returns-then-log_word-lt1 : goal.returns-then-log_word-lt1
returns-then-log_word-lt1 c = search sifting
