-- `put_row` stores the words of a row.
use borrow.Author.Rules.{rules}
use native.Mathlib.Omega.{arith}
use Prim.Native.Nat.{◌*◌}
use lib.ListN.{length-set}
use Rattle.rooms.specs.Stores.{sets_past, stored}
use Rattle.language.specs.Tree.{width}
use Rattle.rooms.proofs.put_row.Goals as goal

pub returns-else-i-rows : goal.returns-else-i-rows
returns-else-i-rows c = search (sets_past, rules)

pub bounds-rows-i-2 : goal.bounds-rows-i-2
bounds-rows-i-2 c = simp length-set (omega arith)

pub bounds-rows-i-3 : goal.bounds-rows-i-3
bounds-rows-i-3 c = simp length-set (omega arith)

pub bounds-rows-i-4 : goal.bounds-rows-i-4
bounds-rows-i-4 c = simp length-set (omega arith)

pub bounds-rows-i-5 : goal.bounds-rows-i-5
bounds-rows-i-5 c = simp length-set (omega arith)

pub bounds-rows-i-6 : goal.bounds-rows-i-6
bounds-rows-i-6 c = simp length-set (omega arith)

pub bounds-rows-i-7 : goal.bounds-rows-i-7
bounds-rows-i-7 c = simp length-set (omega arith)

pub bounds-rows-i-8 : goal.bounds-rows-i-8
bounds-rows-i-8 c = simp length-set (omega arith)

pub bounds-rows-i-9 : goal.bounds-rows-i-9
bounds-rows-i-9 c = simp length-set (omega arith)

pub returns : goal.returns
returns c =
    let s = c.args in
    stored s.rows.now (width * s.row) s.w.kind s.w.first s.w.after s.w.from s.w.to s.w.parent s.w.next 0 0
