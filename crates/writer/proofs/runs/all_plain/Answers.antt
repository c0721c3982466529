-- `all_plain` tells plain bytes, so many. The loop's invariant: n of the i bytes from `at` on are plain.
use Rattle.characters.specs.Plains.{double}
use Rattle.writer.specs.Runs.{counted_none, counted_more, counted_less, counted_all}
use native.Mathlib.Omega.{arith}
use Rattle.writer.proofs.runs.all_plain.Goals as goal
use Rattle.writer.proofs.runs.all_plain.Goals.{then-is_plain, else-is_plain}

pub loop-i-init : goal.loop-i-init
loop-i-init c = counted_none _ _ (omega arith)

pub is_plain-requires : goal.is_plain-requires
is_plain-requires c = double

pub overflow_add-n : goal.overflow_add-n
overflow_add-n c = omega (arith, c.loop-i.invariant.few)

pub loop-i-preserved : goal.loop-i-preserved
loop-i-preserved c =
    let l = c.loop-i in
    let p = c.is_plain in
    elim c.if-is_plain.branch [
      | then-is_plain w ↦ counted_more _ _ l.invariant p.ensures (omega arith) w.if-is_plain.true w.n-is
      | else-is_plain w ↦ counted_less _ _ l.invariant w.n-is
    ]

pub returns : goal.returns
returns c = λ h. let l = c.loop-i in counted_all _ _ l.invariant (omega arith) h
