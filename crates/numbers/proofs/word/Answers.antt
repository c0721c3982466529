-- `word` meets its contract: the first byte chooses the reader.
use borrow.Author.Rules.{rules}
use Rattle.numbers.proofs.NumberLaws.{leads_other, word_laws}
use Rattle.numbers.proofs.word.Goals as goal

pub number-requires : goal.number-requires
number-requires c = let r = c.in_default.in_default-own.rest in record { ready = search rules; leads = search (leads_other, r.0.0.0.1, r.0.0.1, r.0.1, r.1, rules) }

pub returns-in-110 : goal.returns-in-110
returns-in-110 c = rw c.anew_far.ensures (search word_laws)

pub returns-in-116 : goal.returns-in-116
returns-in-116 c = rw c.anew_far-in-116.ensures (search word_laws)

pub returns-in-102 : goal.returns-in-102
returns-in-102 c = rw c.anew_far-in-102.ensures (search word_laws)

pub returns-in-105 : goal.returns-in-105
returns-in-105 c = rw c.anew_far-in-105.ensures (search word_laws)

pub returns-in_default : goal.returns-in_default
returns-in_default c = rw c.anew_far-in_default.ensures (search word_laws)
