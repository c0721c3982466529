-- The cycle of values and containers meets its contracts. The allowance falls from a container to what is inside it; in the loop, the rows that are left fall.
use Rattle.sound.proofs.RowLaws.{row_past, row_parent}
use Rattle.sound.proofs.CycleLaws.{going_bad, going_count, going_less, no_allowance, no_end, past_end, no_children, kinding}
use Rattle.sound.proofs.+child_children_container_of_kind_value.Goals.{container-then-allow-eq0-via-then-allow-eq0, container-then-allow-eq0-via-else-allow-eq0+then-end-r, container-then-allow-eq0-via-else-allow-eq0+else-end-r+then-stop-end, value-then-stop-r-via-then-stop-r, value-then-stop-r-via-else-stop-r+then-word-parent}
use Rattle.sound.proofs.+child_children_container_of_kind_value.Goals as goal

pub children-returns-in_err-t : goal.children-returns-in_err-t
children-returns-in_err-t t c = rw c.from_residual.ensures (going_bad _ _ _ _ _ _ _ _ _ _ c.loop-at.invariant c.loop-at-test.true _ c.child.ensures c.in_err-t.was)

pub children-overflow_add-n : goal.children-overflow_add-n
children-overflow_add-n t c = going_count _ _ _ _ _ _ _ _ _ _ c.loop-at.invariant

pub children-loop-at-smaller : goal.children-loop-at-smaller
children-loop-at-smaller t c = going_less _ _ _ _ _ _ _ _ _ _ c.loop-at.invariant c.loop-at-test.true _ c.child.ensures _ c.in_ok-t.was

pub container-returns-then-allow-eq0 : goal.container-returns-then-allow-eq0
container-returns-then-allow-eq0 t c =
    elim c.then-allow-eq0.branch [
      | container-then-allow-eq0-via-then-allow-eq0 w ↦ no_allowance _ _ _ _ _ _ c.requires.0 c.requires.1 _ w.if-allow-eq0.true
      | container-then-allow-eq0-via-else-allow-eq0+then-end-r w ↦ no_end _ _ _ _ _ _ c.requires.0 c.requires.1 _ _ c.word-end.ensures.0 w.if-end-r.true
      | container-then-allow-eq0-via-else-allow-eq0+else-end-r+then-stop-end w ↦ past_end _ _ _ _ _ _ c.requires.0 c.requires.1 _ _ c.word-end.ensures.0 w.if-stop-end.true
    ]

pub container-returns-in_err-m : goal.container-returns-in_err-m
container-returns-in_err-m t c =
    rw c.from_residual.ensures (no_children _ _ _ _ _ _ c.requires.0 c.requires.1 _ _ c.word-end.ensures.0 c.if-allow-eq0.false _ c.children.ensures c.in_err-m.was)

pub of_kind-returns-in_default : goal.of_kind-returns-in_default
of_kind-returns-in_default t c = search kinding

pub of_kind-returns-in_default-2 : goal.of_kind-returns-in_default-2
of_kind-returns-in_default-2 t c = search kinding

pub value-returns-then-stop-r : goal.value-returns-then-stop-r
value-returns-then-stop-r t c =
    elim c.then-stop-r.branch [
      | value-then-stop-r-via-then-stop-r w ↦ row_past _ _ _ _ _ _ _ w.if-stop-r.true
      | value-then-stop-r-via-else-stop-r+then-word-parent w ↦ row_parent _ _ _ _ _ _ _ _ w.word.ensures.0 w.if-word-parent.true
    ]
