-- `plain` meets its contract: the first byte is taken, and chooses the reader.
use borrow.Author.Rules.{rules}
use Rattle.numbers.proofs.NumberLaws.{plain_laws}
use Rattle.numbers.proofs.plain.Goals.{in_default-via-then-b-lt102, in_default-via-else-b-lt102+else-b-lt117}
use Rattle.numbers.proofs.plain.Goals as goal

pub number-requires : goal.number-requires
number-requires c =
    rw c.anew.ensures
    (elim c.in_default.branch
    [ in_default-via-then-b-lt102 w ↦ search plain_laws | in_default-via-else-b-lt102+else-b-lt117 w ↦ search plain_laws ])

pub returns-in-45 : goal.returns-in-45
returns-in-45 c = rw c.anew_far.ensures (search rules)

pub returns-in-102-to-116 : goal.returns-in-102-to-116
returns-in-102-to-116 c = rw c.anew_far-in-102-to-116.ensures (search rules)

pub returns-in_default : goal.returns-in_default
returns-in_default c = rw (c.anew_far-in_default.ensures, ← c.anew.ensures) (search rules)

pub signed-requires-clause-passed : goal.signed-requires-clause-passed
signed-requires-clause-passed c = search plain_laws

pub word-requires-clause-passed : goal.word-requires-clause-passed
word-requires-clause-passed c = search plain_laws
