-- `window_of` starts with rooms that have nothing in them.
use mathlib.Core.Path.{refl}
use Rattle.distinct.specs.Window.{rooms_first}
use borrow.Author.Rules.{rules}
use Rattle.lay.proofs.windows.window_of.Goals as goal

pub window-requires : goal.window-requires
window-requires g c = (search rules, search rules, search rules, rooms_first g.row.N g.row.N 4096 g.row.N (search rules) (search rules) refl refl refl)
