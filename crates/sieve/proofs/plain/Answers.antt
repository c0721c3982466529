-- `plain` takes one key more where there are no lists. Assumes nothing.
use Rattle.sieve.specs.Plain.{plaining}
use Rattle.sieve.proofs.plain.Goals as goal

pub returns-then-bit : goal.returns-then-bit
returns-then-bit c = search plaining
