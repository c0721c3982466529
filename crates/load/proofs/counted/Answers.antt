-- `counted` tests any bytes.
use Rattle.load.specs.Testing.{telling}
use Rattle.load.proofs.counted.Goals as goal

pub held_short-requires : goal.held_short-requires
held_short-requires c = search telling

pub returns-then-stored-le-LONGEST : goal.returns-then-stored-le-LONGEST
returns-then-stored-le-LONGEST c = search telling

pub returns-then-stored-gt-LENT : goal.returns-then-stored-gt-LENT
returns-then-stored-gt-LENT c = search telling

pub held_long-requires : goal.held_long-requires
held_long-requires c = search telling

pub returns : goal.returns
returns c = search telling
