-- `chained` tells whether an earlier key is the same, and the i-th joins its chain.
use Rattle.std.proofs.Common.{rules}
use Rattle.places.specs.Walks.{chained_walk, chained_all}
use Rattle.places.proofs.chained.Goals as goal

pub in_chain-walk-requires : goal.in_chain-walk-requires
in_chain-walk-requires c =
    let f = chained_walk c.args.doc.now c.args.keys.now c.args.heads.now c.args.links.now c.args.marks.now c.args.i c.requires in
    search (f, rules)

pub returns : goal.returns
returns c =
    let f = chained_all c.args.doc.now c.args.keys.now c.args.heads.now c.args.links.now c.args.marks.now c.args.i c.requires in
    search (f, rules)
