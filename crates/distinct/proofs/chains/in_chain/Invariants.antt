-- `in_chain` tells whether a key of a chain has a text, or breaks off. The loop's invariant: one has if one of the rest has.
use lib.Seq.{slice}
use Rattle.distinct.specs.Chains.{Looking}
use Rattle.distinct.proofs.chains.in_chain.Given as goal

abbrev pub invariant-loop-h : goal.invariant-loop-h
invariant-loop-h l = Looking l.text l.froms l.tos l.links (slice l.b l.f l.words) l.head l.n l.h l.steps

abbrev pub decreases-loop-h : goal.decreases-loop-h
decreases-loop-h l = l.h
