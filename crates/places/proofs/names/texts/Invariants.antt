-- `texts` tells how two texts stand to each other. The loop's invariant: they agree so far.
use Rattle.places.specs.Names.{Agree}
use Rattle.spelt.specs.Spelling.{weight}
use Rattle.places.proofs.names.texts.Given as goal

abbrev pub invariant-loop-c : goal.invariant-loop-c
invariant-loop-c l = Agree l.doc l.a l.b l.room l.p.one l.other l.p.two

abbrev pub decreases-loop-c : goal.decreases-loop-c
decreases-loop-c l = weight l.doc l.p.one
