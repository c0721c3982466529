-- `set_bit` sets a bit. Assumes nothing.
use borrow.Author.Rules.{rules}
use Rattle.sieve.specs.Bits.{sets_bit}
use Rattle.sieve.proofs.set_bit.Goals as goal

pub returns : goal.returns
returns c = search (sets_bit, rules)
