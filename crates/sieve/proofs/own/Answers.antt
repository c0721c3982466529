-- `own` puts a key into its list, or finds it again. Assumes nothing.
use Rattle.sieve.specs.Shown.{owning}
use Rattle.sieve.proofs.own.Goals as goal

pub returns-then-bit : goal.returns-then-bit
returns-then-bit c = search owning
