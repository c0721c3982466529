-- `scalar` writes a scalar or a key by its kind.
use Rattle.writer.specs.Leaves.{spelling}
use borrow.Author.Rules.{rules}
use Rattle.writer.proofs.leaves.scalar.Goals as goal

pub all-requires : goal.all-requires
all-requires c = search (spelling, rules)

pub all-requires-in-2 : goal.all-requires-in-2
all-requires-in-2 c = search (spelling, rules)

pub all-requires-in-3 : goal.all-requires-in-3
all-requires-in-3 c = search (spelling, rules)

pub quoted-requires : goal.quoted-requires
quoted-requires c = search (spelling, rules)

pub angled-requires : goal.angled-requires
angled-requires c = search (spelling, rules)

pub all-requires-in_default : goal.all-requires-in_default
all-requires-in_default c = search (spelling, rules)

pub returns-in-1 : goal.returns-in-1
returns-in-1 c = search (spelling, rules)

pub returns-in-2 : goal.returns-in-2
returns-in-2 c = search (spelling, rules)

pub returns-in-3 : goal.returns-in-3
returns-in-3 c = search (spelling, rules)

pub returns-in-6 : goal.returns-in-6
returns-in-6 c = search (spelling, rules)

pub returns-in-7 : goal.returns-in-7
returns-in-7 c = search (spelling, rules)

pub returns-in_default : goal.returns-in_default
returns-in_default c = search (spelling, rules)
