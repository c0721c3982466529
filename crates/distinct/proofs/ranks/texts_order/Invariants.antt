-- `texts_order` tells how two texts stand to each other. The loop's invariant: as what is left of them does.
use Rattle.distinct.specs.Ranks.{Agree}
use Rattle.distinct.proofs.ranks.texts_order.Given as goal

abbrev pub invariant-loop-i : goal.invariant-loop-i
invariant-loop-i l = Agree l.text l.a l.e l.words l.b l.f l.i
