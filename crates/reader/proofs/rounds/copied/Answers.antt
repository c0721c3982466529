-- `copied` makes a filter of the bits found again. Assumes nothing.
use Rattle.reader.specs.Rounds.{copied_within}
use Rattle.reader.proofs.rounds.copied.Goals as goal

pub returns : goal.returns
returns c = copied_within _ _ c.copy_within.ensures.len c.copy_within.ensures.by_index.0 c.copy_within.ensures.by_index.1
