-- `in_chain` tells whether a key of a chain is the same as the i-th, or breaks off. The loop's invariant: one is if one of the rest is.
use Rattle.places.specs.Walks.{walking}
use Rattle.places.proofs.in_chain.Goals as goal

pub same_key-requires : goal.same_key-requires
same_key-requires c = search walking

pub returns-then-same_key : goal.returns-then-same_key
returns-then-same_key c = search walking

pub word-h-requires : goal.word-h-requires
word-h-requires c = search walking

pub loop-h-smaller : goal.loop-h-smaller
loop-h-smaller c = search walking

pub loop-h-preserved : goal.loop-h-preserved
loop-h-preserved c = search walking

pub returns : goal.returns
returns c = search walking
