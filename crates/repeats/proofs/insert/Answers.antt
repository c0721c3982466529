-- `insert` puts a key between others: those behind its place are moved one further.
use Rattle.repeats.specs.Sorted.{inserted}
use Rattle.repeats.proofs.insert.Goals as goal

pub returns : goal.returns
returns c = inserted _ _ _ _ c.requires.0 c.requires.1 c.copy_within.ensures.len c.copy_within.ensures.by_index.0 c.copy_within.ensures.by_index.1
