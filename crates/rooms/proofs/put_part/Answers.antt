-- `put_part` stores as many words as have room.
use Rattle.std.specs.Prelude.{◌≡◌, refl, ◌+◌, ◌-◌, length}
use Rattle.std.proofs.Common.{◌∙◌, arith, length-set}
use Rattle.rooms.specs.Stores.{copy_turn, copy_done, sets_few}
use Rattle.rooms.proofs.put_part.Goals as goal

pub loop-k-init : goal.loop-k-init
loop-k-init c = let s = c.args in let p : s.i + 0 ≡ s.i = omega arith in (rw p refl, refl)

pub loop-k-preserved : goal.loop-k-preserved
loop-k-preserved c =
    let s = c.args in
    let l = c.loop-k in
    (copy_turn _ l.rows s.words.now (s.i + l.k) l.k (length s.rows.now - s.i) _ _ l.invariant.0 (omega arith) (omega arith) (omega arith) (omega arith), simp length-set l.invariant.1)

pub returns : goal.returns
returns c =
    let s = c.args in
    let l = c.loop-k in
    let n = length s.rows.now - s.i in
    copy_done _ l.rows s.words.now (s.i + l.k) l.k n l.invariant.0 (omega arith) ∙ sets_few s.rows.now s.words.now s.i n (omega arith) (omega arith)
