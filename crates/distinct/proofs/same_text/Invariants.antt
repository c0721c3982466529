-- `same_text` tells whether a part of one text and one of another are the same. The loop's invariant: they are if what is left of them is.
use Rattle.distinct.specs.Same.{Same}
use Rattle.distinct.proofs.same_text.Given as goal

abbrev pub invariant-loop-i : goal.invariant-loop-i
invariant-loop-i l = Same l.text l.a l.e l.words l.b l.f l.n l.i
