-- `chain_at` gives the chain of a text.
use borrow.Author.Rules.{rules}
use Rattle.distinct.specs.Chains.{chain_told}
use Rattle.distinct.proofs.chains.chain_at.Goals as goal

pub returns : goal.returns
returns c = search (chain_told, rules)
