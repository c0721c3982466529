-- The cycle of values and containers meets its contracts. The allowance falls from a container to what is inside it; in the loop, the bytes that are left fall.
use Rattle.uncut.proofs.CycleLaws.{going_bad, going_rows, going_count, going_less, no_allowance, pair_rows}
use Rattle.uncut.proofs.tested.+child_children_container_member_of_kind_pair_value.Goals as goal

pub children-returns-in_err-t : goal.children-returns-in_err-t
children-returns-in_err-t t c = rw c.from_residual.ensures (going_bad _ _ _ _ _ _ _ _ c.loop-at.invariant c.loop-at-test.true _ c.child.ensures c.in_err-t.was)

pub children-overflow_add-rows : goal.children-overflow_add-rows
children-overflow_add-rows t c = going_rows _ _ _ _ _ _ _ _ c.loop-at.invariant c.loop-at-test.true _ c.child.ensures _ c.in_ok-t.was

pub children-overflow_add-n : goal.children-overflow_add-n
children-overflow_add-n t c = going_count _ _ _ _ _ _ _ _ c.loop-at.invariant c.loop-at-test.true _ c.child.ensures _ c.in_ok-t.was

pub children-loop-at-smaller : goal.children-loop-at-smaller
children-loop-at-smaller t c = going_less _ _ _ _ _ _ _ _ c.loop-at.invariant c.loop-at-test.true _ c.child.ensures _ c.in_ok-t.was

pub container-returns-then-allow-eq0 : goal.container-returns-then-allow-eq0
container-returns-then-allow-eq0 t c = no_allowance _ _ _ _ c.requires.0 c.requires.1 _ c.if-allow-eq0.true

pub pair-overflow_add-result : goal.pair-overflow_add-result
pair-overflow_add-result t c = pair_rows _ _ _ _ _ c.key.ensures _ c.in_ok-k.was _ c.member.ensures _ c.in_ok-t.was c.requires
