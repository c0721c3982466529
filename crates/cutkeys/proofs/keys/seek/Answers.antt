-- `seek` passes keys that are cut. The loop's invariant: the first whole key from here on is the first of all, and the one here stands where it is said to.
use Rattle.cutkeys.specs.Found.{seeking}
use Rattle.cutkeys.proofs.keys.seek.Goals as goal

pub key_at-k-requires : goal.key_at-k-requires
key_at-k-requires c = search seeking

pub returns-in-Some : goal.returns-in-Some
returns-in-Some c = search seeking

pub loop-p-smaller : goal.loop-p-smaller
loop-p-smaller c = search seeking

pub loop-p-preserved : goal.loop-p-preserved
loop-p-preserved c = search seeking
