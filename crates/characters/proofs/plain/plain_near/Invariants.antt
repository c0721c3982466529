-- `plain_near` answers the place behind the plain bytes, if they are fewer than 8. The loop's invariant: they stand up to e.
use Rattle.characters.specs.Plains.{plain_of, Passing}
use Rattle.characters.proofs.plain.plain_near.Given as goal

abbrev pub invariant-loop-e : goal.invariant-loop-e
invariant-loop-e l = Passing (plain_of l.quote) l.doc l.at l.e
