-- `chain_matches` marks the keys of a window, in chains.
use Rattle.lay.specs.Windows.{chain_probe}
use borrow.Author.Rules.{rules}
use Rattle.lay.proofs.windows.chain_matches.Goals as goal

pub probed-requires : goal.probed-requires
probed-requires c =
    let a = c.chained_all in
    let f = chain_probe c.args.text.now c.args.froms.now c.args.tos.now c.args.heads.now c.args.links.now c.args.n c.args.other.now.rows.now c.args.other.now.text.now c.args.from c.args.stop c.args.marks.now c.requires _ _ a.result a.ensures in
    search (f, rules)
