-- `all_plain` meets its contract. The loop's invariant: n of the i bytes from `at` on are plain.
use native.Mathlib.Omega.{arith}
use Rattle.characters.proofs.Plains.{counted_none, counted_more, counted_less, counted_all}
use Rattle.characters.proofs.plain.all_plain.Goals as goal
use Rattle.characters.proofs.plain.all_plain.Goals.{then-is_plain, else-is_plain}

pub loop-i-init : goal.loop-i-init
loop-i-init c = counted_none _ _ _ (omega arith)

pub overflow_add-n : goal.overflow_add-n
overflow_add-n c = omega arith

pub loop-i-preserved : goal.loop-i-preserved
loop-i-preserved c =
    let l = c.loop-i in
    let p = c.is_plain in (
    elim c.if-is_plain.branch [
      | then-is_plain w ↦ counted_more _ _ _ l.n l.i l.invariant _ p.result p.ensures (omega arith) w.if-is_plain.true w.n-is
      | else-is_plain w ↦ counted_less _ _ _ l.n l.i l.invariant _ w.n-is
    ]
    )

pub returns : goal.returns
returns c = λ h. let l = c.loop-i in counted_all _ _ _ l.n l.i l.invariant (omega arith) h
