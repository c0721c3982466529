-- `chained` tells whether an earlier key has the same text, and the i-th joins its chain.
use Rattle.distinct.specs.Chains.{chained_tells, chained_walk, chaining}
use borrow.Author.Rules.{rules}
use Rattle.distinct.proofs.chains.chained.Goals as goal

pub place_at-a-requires : goal.place_at-a-requires
place_at-a-requires c = search chaining

pub place_at-e-requires : goal.place_at-e-requires
place_at-e-requires c = search chaining

pub chain_at-c-requires : goal.chain_at-c-requires
chain_at-c-requires c = search chaining

pub word-head-requires : goal.word-head-requires
word-head-requires c = search chaining

pub in_chain-r-requires : goal.in_chain-r-requires
in_chain-r-requires c =
    chained_walk c.args.text.now c.args.froms.now c.args.tos.now c.args.heads.now c.args.links.now c.args.n c.args.i c.requires c.place_at-a.result c.place_at-e.result c.place_at-a.ensures c.place_at-e.ensures c.chain_at-c.result c.chain_at-c.ensures c.word-head.result c.word-head.ensures.0

pub offset_bounds-heads-c : goal.offset_bounds-heads-c
offset_bounds-heads-c c = search chaining

pub bounds-heads-c : goal.bounds-heads-c
bounds-heads-c c = search chaining

pub offset_bounds-heads-c-2 : goal.offset_bounds-heads-c-2
offset_bounds-heads-c-2 c = search chaining

pub bounds-heads-c-2 : goal.bounds-heads-c-2
bounds-heads-c-2 c = search chaining

pub returns : goal.returns
returns c =
    let f = chained_tells c.args.text.now c.args.froms.now c.args.tos.now c.args.heads.now c.args.links.now c.args.n c.args.i c.requires in
    search (f, rules)
