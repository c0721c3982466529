-- `Reading::digits` hands back the place behind the digits here.
use Rattle.language.specs.Scalars.{digit}
use Rattle.characters.specs.Plains.{Passing}
use Rattle.characters.proofs.Reading.digits.Given as goal

abbrev pub invariant-loop-at : goal.invariant-loop-at
invariant-loop-at l = Passing digit l.doc l.initial.at l.at
