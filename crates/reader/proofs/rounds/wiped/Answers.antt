-- `wiped` empties the sieve. Assumes nothing.
use Rattle.std.proofs.Common.{arith}
use Rattle.reader.specs.Rounds.{wiped_filled}
use Rattle.reader.proofs.rounds.wiped.Goals as goal

pub returns : goal.returns
returns c = wiped_filled _ _ _ c.requires (c.fill.ensures.after (λ y e. e)) (omega arith)
