-- `copy_words` stores words of one table in another.
use Rattle.std.proofs.Common.{refl, arith, length-set}
use Rattle.rooms.specs.Stores.{copy_turn, copy_done}
use Rattle.answers.proofs.copy_words.Goals as goal

pub loop-i-init : goal.loop-i-init
loop-i-init c = (refl, refl)

pub loop-i-preserved : goal.loop-i-preserved
loop-i-preserved c =
    let s = c.args in
    let l = c.loop-i in
    (copy_turn _ l.table s.words.now l.i l.i s.n _ _ l.invariant.0 (omega arith) (omega arith) (omega arith) (omega arith), simp length-set l.invariant.1)

pub returns : goal.returns
returns c =
    let s = c.args in
    let l = c.loop-i in
    copy_done _ l.table s.words.now l.i l.i s.n l.invariant.0 (omega arith)
