-- `in_chains` tells which key in the chains has a text.
use Rattle.distinct.specs.Chains.{seek_walkable, seeks}
use borrow.Author.Rules.{rules}
use Rattle.distinct.proofs.chains.in_chains.Goals as goal

pub word-head-requires : goal.word-head-requires
word-head-requires c = search seeks

pub in_chain-requires : goal.in_chain-requires
in_chain-requires c =
    let s = c.before.before.before.before.before.before.before.before in
    let f = seek_walkable s.args.text.now s.args.froms.now s.args.tos.now s.args.heads.now s.args.links.now s.args.words.now s.args.b s.args.f s.args.n s.requires.0 s.requires.1 in
    search (f, rules)

pub returns : goal.returns
returns c = search seeks
