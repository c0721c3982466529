-- `put_row` stores the words of a row as far as there is room.
use Rattle.lay.specs.Targets.{part_stored}
use Rattle.language.specs.Tree.{width, unlined, row_list}
use Prim.Native.Nat.{◌*◌}
use Rattle.lay.proofs.stores.put_row.Goals as goal

pub returns-then-i-rows : goal.returns-then-i-rows
returns-then-i-rows c = let s = c.args in part_stored s.rows.now (row_list unlined s.w.kind s.w.first s.w.after s.w.from s.w.to s.w.parent s.w.next) _ (width * s.row) c.if-i-rows.true c.put_row.ensures
