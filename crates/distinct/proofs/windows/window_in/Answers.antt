-- `window_in` starts with rooms that have nothing in them.
use Rattle.std.proofs.Common.{refl, arith, rules}
use Rattle.distinct.specs.Window.{rooms_first}
use Rattle.distinct.proofs.windows.window_in.Goals as goal

pub window-requires : goal.window-requires
window-requires g c =
    (search rules, search rules, rooms_first g.row.N g.row.N 4096 g.row.N (omega arith) (omega arith) refl refl refl)
