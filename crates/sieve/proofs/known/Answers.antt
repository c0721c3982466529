-- `known` takes one key more of an object met before. Assumes nothing.
use Rattle.sieve.specs.Shown.{placed_own}
use Rattle.sieve.proofs.known.Goals as goal

pub returns-then-log_word-object : goal.returns-then-log_word-object
returns-then-log_word-object c = placed_own _ _ _ _ _ _ c.own.ensures (rw c.list_at-at.ensures at c.log_word.ensures.0) c.if-log_word-object.true c.requires.4
