-- `Reading::plain` answers the place behind the plain bytes. The loop's invariant: they go on up to e at least.
use Rattle.characters.specs.Plains.{plain_of, Passing}
use Rattle.characters.proofs.Reading.plain.Given as goal

abbrev pub invariant-loop-at : goal.invariant-loop-at
invariant-loop-at l = Passing (plain_of l.quote) l.doc l.fn.self.at l.at
