-- `all_plain` meets its contract. The loop's invariant: n of the i bytes from `at` on are plain.
use Rattle.characters.specs.Plains.{plain_of}
use Rattle.characters.proofs.Plains.{Counted}
use Rattle.characters.proofs.plain.all_plain.Given as goal

abbrev pub invariant-loop-i : goal.invariant-loop-i
invariant-loop-i l = Counted (plain_of l.quote) l.doc l.at l.n l.i
