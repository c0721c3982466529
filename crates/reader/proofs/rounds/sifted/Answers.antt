-- `sifted` is as it promises. Assumes nothing.
use Rattle.reader.specs.Rounds.{sifting}
use borrow.Author.Rules.{rules}
use Rattle.reader.proofs.rounds.sifted.Goals as goal

pub log_word-hits-requires : goal.log_word-hits-requires
log_word-hits-requires c = search sifting

pub returns-then-hits-lt1 : goal.returns-then-hits-lt1
returns-then-hits-lt1 c = search sifting

pub settled-requires : goal.settled-requires
settled-requires c = search sifting

pub returns-then-hits-le-HALF : goal.returns-then-hits-le-HALF
returns-then-hits-le-HALF c = search sifting

pub settled-requires-then-round-gt8 : goal.settled-requires-then-round-gt8
settled-requires-then-round-gt8 c = search sifting

pub returns-then-round-gt8 : goal.returns-then-round-gt8
returns-then-round-gt8 c = search sifting

pub turn-requires : goal.turn-requires
turn-requires c = search sifting

pub sieved-requires : goal.sieved-requires
sieved-requires c = search sifting

pub loop-round-smaller : goal.loop-round-smaller
loop-round-smaller c = search sifting

pub loop-round-preserved : goal.loop-round-preserved
loop-round-preserved c = (search rules, search rules, search rules, search rules)
