-- `window` tells the first repeated key of two halves of the log. Assumes nothing.
use Rattle.std.proofs.Common.{refl, sym}
use Rattle.reader.specs.Windows.{asking, asking_prefix}
use Rattle.reader.proofs.windows.window.Goals as goal

pub emptied-requires : goal.emptied-requires
emptied-requires c = search asking

pub check-requires : goal.check-requires
check-requires c = search asking

pub first_again-requires : goal.first_again-requires
first_again-requires c = search asking

pub returns : goal.returns
returns c = search asking

pub slice_bounds-first_again-end-2 : goal.slice_bounds-first_again-end-2
slice_bounds-first_again-end-2 c = sym (asking_prefix _ _ _ _ _ c.requires _ refl _ c.emptied.ensures _ c.check.ensures.logged)
