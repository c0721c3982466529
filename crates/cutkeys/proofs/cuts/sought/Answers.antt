-- `sought` holds the text against the keys that are not passed. The loop's invariant: another key has it exactly if one from q on has.
use Rattle.cutkeys.specs.CutsSought.{soughts}
use Rattle.cutkeys.proofs.cuts.sought.Goals as goal

pub same_other-requires : goal.same_other-requires
same_other-requires c = search soughts

pub returns-then-same_other : goal.returns-then-same_other
returns-then-same_other c = search soughts

pub loop-q-smaller : goal.loop-q-smaller
loop-q-smaller c = search soughts

pub loop-q-preserved : goal.loop-q-preserved
loop-q-preserved c = search soughts

pub returns : goal.returns
returns c = search soughts
