-- `in_chain` tells whether a key of a chain has a text, or breaks off. The loop's invariant: one has if one of the rest has.
use Rattle.distinct.specs.Chains.{looking}
use Rattle.distinct.proofs.chains.in_chain.Goals as goal

pub loop-h-init : goal.loop-h-init
loop-h-init c = search looking

pub returns-then-steps-eq-STEPS : goal.returns-then-steps-eq-STEPS
returns-then-steps-eq-STEPS c = search looking

pub overflow_sub-k : goal.overflow_sub-k
overflow_sub-k c = search looking

pub is_named-requires : goal.is_named-requires
is_named-requires c = search looking

pub returns-then-is_named : goal.returns-then-is_named
returns-then-is_named c = search looking

pub word-h-requires : goal.word-h-requires
word-h-requires c = search looking

pub overflow_add-steps : goal.overflow_add-steps
overflow_add-steps c = search looking

pub loop-h-smaller : goal.loop-h-smaller
loop-h-smaller c = search looking

pub loop-h-preserved : goal.loop-h-preserved
loop-h-preserved c = search looking

pub returns : goal.returns
returns c = search looking
