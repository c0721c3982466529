-- `rank_matches` marks the keys of a window, in the order of their texts.
use Rattle.lay.specs.Gathering.{zeros_filled, filled_length}
use Rattle.lay.specs.Windows.{rank_probe}
use borrow.Author.Rules.{rules}
use Rattle.lay.proofs.windows.rank_matches.Goals as goal

pub probed-requires : goal.probed-requires
probed-requires c =
    let a = c.ranked_all in
    let z = c.fill.ensures.after (λ y e. e) in
    let n = c.args.n in
    let m = c.args.marks.now in
    rank_probe _ _ _ _ _ _ _ _ _ _ c.requires _ _ a.result a.ensures (search rules) _ (filled_length m _ n c.requires.room z) (zeros_filled m _ n c.requires.room z)
