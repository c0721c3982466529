-- `lost` takes every key for one found again. Assumes nothing.
use Rattle.sieve.specs.Shown.{losing}
use Rattle.sieve.proofs.lost.Goals as goal

pub returns : goal.returns
returns c = search losing
