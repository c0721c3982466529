-- `stir` gives the number that picks a chain. The loop's invariant: it is that of the bytes passed.
use Rattle.distinct.specs.Chains.{stirs}
use Rattle.distinct.proofs.chains.stir.Goals as goal

pub loop-i-init : goal.loop-i-init
loop-i-init c = search stirs

pub bounds-text-i : goal.bounds-text-i
bounds-text-i c = search stirs

pub stirred-h-requires : goal.stirred-h-requires
stirred-h-requires c = search stirs

pub loop-i-preserved : goal.loop-i-preserved
loop-i-preserved c = search stirs

pub returns : goal.returns
returns c = search stirs
