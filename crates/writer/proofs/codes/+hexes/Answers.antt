-- `hexes` writes the hex digits of a number; they become fewer.
use Rattle.writer.specs.Codes.{hexing}
use borrow.Author.Rules.{rules}
use Rattle.writer.proofs.codes.+hexes.Goals as goal

pub returns-then-n-eq0 : goal.returns-then-n-eq0
returns-then-n-eq0 t c = search (hexing, rules)

pub put-requires : goal.put-requires
put-requires t c = search (hexing, rules)

pub returns-then-v-le15 : goal.returns-then-v-le15
returns-then-v-le15 t c = search (hexing, rules)

pub hexes-y-requires : goal.hexes-y-requires
hexes-y-requires t c = search (hexing, rules)

pub put-requires-2 : goal.put-requires-2
put-requires-2 t c = search (hexing, rules)

pub returns : goal.returns
returns t c = search (hexing, rules)
