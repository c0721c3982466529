-- `ranked_window` tells of the keys in a window by the order of texts.
use Rattle.distinct.specs.Windows.{windowing}
use Rattle.cutkeys.proofs.windows.ranked_window.Goals as goal

pub returns-then-by_ranks : goal.returns-then-by_ranks
returns-then-by_ranks c = search windowing

pub returns : goal.returns
returns c = search windowing
