-- `seek_short` passes keys that stand whole or are long. The loop's invariant: the first short one that is cut is the first from p on, and the key there stands where it is said to.
use mathlib.Core.Path.{◌∙◌}
use Rattle.cutkeys.specs.Shorts.{whole_told, shorting}
use Rattle.cutkeys.proofs.copies.seek_short.Goals as goal

pub short_bytes-requires : goal.short_bytes-requires
short_bytes-requires c = (search shorting, c.is_some.ensures ∙ whole_told _ _ _ _ _ _ c.key_at-k.ensures.0)

pub key_at-k-requires : goal.key_at-k-requires
key_at-k-requires c = search shorting

pub returns-in-Some : goal.returns-in-Some
returns-in-Some c = search shorting

pub loop-p-smaller : goal.loop-p-smaller
loop-p-smaller c = search shorting

pub loop-p-preserved : goal.loop-p-preserved
loop-p-preserved c = search shorting
