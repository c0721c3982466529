-- `flag` sets the bit of a key found again, and counts it. Assumes nothing.
use Rattle.sieve.specs.Shown.{flagging}
use Rattle.sieve.proofs.flag.Goals as goal

pub returns-then-n-lt-LARGE : goal.returns-then-n-lt-LARGE
returns-then-n-lt-LARGE c = search flagging
