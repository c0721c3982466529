-- `several` passes members of a run. The loop's invariant: those before the place are passed.
use Rattle.cutvalues.proofs.RunLaws.{going_rows, going_count, going_less, going}
use Rattle.cutvalues.proofs.runs.several.Goals as goal

pub loop-at-init : goal.loop-at-init
loop-at-init c = search going

pub overflow_add-rows : goal.overflow_add-rows
overflow_add-rows c = going_rows _ _ _ _ _ _ c.loop-at.invariant _ c.child.ensures _ c.in_ok-t.was

pub overflow_add-members : goal.overflow_add-members
overflow_add-members c = going_count _ _ _ _ _ _ c.loop-at.invariant _ c.child.ensures _ c.in_ok-t.was

pub loop-at-smaller : goal.loop-at-smaller
loop-at-smaller c = going_less _ _ _ _ _ _ c.loop-at.invariant _ c.child.ensures _ c.in_ok-t.was

pub loop-at-preserved : goal.loop-at-preserved
loop-at-preserved c = search going

pub overflow_mul-result : goal.overflow_mul-result
overflow_mul-result c = search going

pub overflow_sub-result : goal.overflow_sub-result
overflow_sub-result c = search going

pub returns-in_err-t : goal.returns-in_err-t
returns-in_err-t c = rw c.from_residual.ensures (search going)
