-- `in_chain` tells whether a key of a chain is the same as the i-th, or breaks off. The loop's invariant: one is if one of the rest is.
use Rattle.repeats.specs.Numbering.{Same}
use Rattle.repeats.specs.Walk.{Walking}
use Rattle.places.specs.Places.{place_keys}
use Rattle.places.proofs.in_chain.Given as goal

abbrev pub invariant-loop-h : goal.invariant-loop-h
invariant-loop-h l = Walking (place_keys l.doc l.keys) (Same (place_keys l.doc l.keys) l.i) l.links l.head l.i l.h l.steps

abbrev pub decreases-loop-h : goal.decreases-loop-h
decreases-loop-h l = l.h
