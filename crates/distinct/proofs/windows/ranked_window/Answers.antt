-- `ranked_window` tells of the keys in a window by the order of texts.
use Rattle.std.proofs.Common.{arith}
use Rattle.distinct.specs.Windows.{window_yes, window_no}
use Rattle.distinct.proofs.windows.ranked_window.Goals as goal

pub returns-then-by_ranks : goal.returns-then-by_ranks
returns-then-by_ranks g c = window_yes _ _ _ _ _ _ c.gather-w.ensures _ c.by_ranks.ensures c.if-by_ranks.true

pub returns-else-by_ranks : goal.returns-else-by_ranks
returns-else-by_ranks g c =
    let e = g.met.K.Keys.stops c.args.keys.now c.args.text.now c.args.stop in
    window_no _ _ _ _ _ _ c.gather-w.ensures _ c.by_ranks.ensures (omega (arith, e)) c.if-by_ranks.false
