-- `copy` stores a run of bytes as far as there is room.
use Rattle.std.specs.Prelude.{◌≡◌, refl, ◌+◌}
use Rattle.std.proofs.Common.{◌∙◌, arith, length-set, rules}
use Rattle.rooms.specs.Stores.{sets_past, copy_turn, copy_done, copy_part}
use Rattle.lay.proofs.stores.copy.Goals as goal

pub loop-i-init : goal.loop-i-init
loop-i-init c =
    let s = c.args in
    let p : s.x + 0 ≡ s.x = omega arith in
    let q : s.a + 0 ≡ s.a = omega arith in
    (rw (p, q) refl, refl)

pub loop-i-preserved : goal.loop-i-preserved
loop-i-preserved c =
    let s = c.args in
    let l = c.loop-i in
    (copy_turn _ l.room s.text.now (s.x + l.i) (s.a + l.i) (s.a + c.min-n.result) _ _ l.invariant.0 (omega arith) (omega (arith, c.min-n.ensures)) (omega arith) (omega arith), simp length-set l.invariant.1)

pub returns-after-loop-i : goal.returns-after-loop-i
returns-after-loop-i c =
    let s = c.args in
    let l = c.loop-i in
    copy_done _ l.room s.text.now (s.x + l.i) (s.a + l.i) (s.a + c.min-n.result) l.invariant.0 (omega arith) ∙ copy_part s.text.now s.room.now s.a s.e s.x c.min-n.result c.min-n.ensures (omega arith) (omega arith) (omega arith)

pub returns-else-x-room : goal.returns-else-x-room
returns-else-x-room c = search (sets_past, rules)
