-- `by_ranks` tells what clashes with a key of the window, by the order of texts.
use Rattle.distinct.specs.Ranks.{ranged_in}
use Rattle.distinct.specs.Window.{clash_yes, clash_no}
use Rattle.distinct.proofs.windows.by_ranks.Goals as goal

pub ranked_behind-requires : goal.ranked_behind-requires
ranked_behind-requires g c =
    (ranged_in _ _ _ _ _ _ c.ranked_all.ensures _ c.requires.0 c.requires.1 c.ranked_all.auto.order c.if-ranked_all.false, c.requires.2)

pub returns-then-ranked_all : goal.returns-then-ranked_all
returns-then-ranked_all g c = rw c.if-ranked_all.true (clash_yes _ _ _ _ _ _ _ _ c.ranked_all.ensures c.if-ranked_all.true)

pub returns-else-ranked_all : goal.returns-else-ranked_all
returns-else-ranked_all g c =
    clash_no _ _ _ _ _ _ _ _ c.ranked_all.ensures c.if-ranked_all.false _ c.ranked_behind.ensures
