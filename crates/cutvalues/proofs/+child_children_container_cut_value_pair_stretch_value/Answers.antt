-- The cycle of values and members.
use Rattle.cutvalues.proofs.CutLaws.{place_small, run_few, near_value, extent_no_value, depth_low}
use Rattle.cutvalues.proofs.CycleLaws.{child_element, pair_keyless, pair_valueless, pair_both, pair_rows, pair_bytes, end_small, stretch_bad, stretch_more, stretch_rows, stretch_bytes, stretch_count, going_first, going_bad, going_more, going_rows, going_bytes, going_count, now_closing, no_allowance, inside_asked, no_members, closing_rows, closing_good, closing_twice, below_deep}
use Rattle.cutvalues.proofs.+child_children_container_cut_value_pair_stretch_value.Goals as goal

pub child-returns : goal.child-returns
child-returns t c = child_element _ _ _ _ _ c.if-object.false _ c.value.ensures

pub children-loop-at-init : goal.children-loop-at-init
children-loop-at-init t c = going_first _ _ _ _

pub children-returns-in_err-r : goal.children-returns-in_err-r
children-returns-in_err-r t c = rw c.from_residual.ensures (going_bad _ _ _ _ _ _ _ _ c.loop-at.invariant _ c.stretch.ensures c.in_err-r.was)

pub children-overflow_add-members : goal.children-overflow_add-members
children-overflow_add-members t c = going_count _ _ _ _ _ _ _ _ c.loop-at.invariant _ c.stretch.ensures _ c.in_ok-r.was (end_small c.args.v.content)

pub children-overflow_add-rows : goal.children-overflow_add-rows
children-overflow_add-rows t c = going_rows _ _ _ _ _ _ _ _ c.loop-at.invariant _ c.stretch.ensures _ c.in_ok-r.was (end_small c.args.v.content)

pub children-overflow_add-bytes : goal.children-overflow_add-bytes
children-overflow_add-bytes t c = going_bytes _ _ _ _ _ _ _ _ c.loop-at.invariant _ c.stretch.ensures _ c.in_ok-r.was (end_small c.args.v.content)

pub children-loop-at-preserved : goal.children-loop-at-preserved
children-loop-at-preserved t c = going_more _ _ _ _ _ _ _ _ c.loop-at.invariant _ c.stretch.ensures _ c.in_ok-r.was

pub container-returns-then-allow-eq0 : goal.container-returns-then-allow-eq0
container-returns-then-allow-eq0 t c = no_allowance _ _ _ _ _ _ _ _ c.requires.2 _ c.if-allow-eq0.true

pub container-deeper-s-requires : goal.container-deeper-s-requires
container-deeper-s-requires t c = (depth_low _ _ c.requires.0, place_small c.args.v.content c.args.at c.requires.1)

pub container-invariant_of-content : goal.container-invariant_of-content
container-invariant_of-content t c =
    record { content = inside_asked _ _ _ _ _ _ _ _ c.requires.2 _ c.if-allow-eq0.false _ c.deeper-s.ensures c.requires.0 c.args.v.content }

pub container-returns-in_err-c : goal.container-returns-in_err-c
container-returns-in_err-c t c =
    rw c.from_residual.ensures (no_members _ _ _ _ _ _ _ _ c.requires.2 _ c.if-allow-eq0.false _ c.deeper-s.ensures _ c.children.ensures c.in_err-c.was)

pub container-closed-requires : goal.container-closed-requires
container-closed-requires t c = (below_deep _ _ c.requires.0, now_closing _ _ _ _ _ c.children.ensures _ c.in_ok-c.was)

pub container-overflow_add-result : goal.container-overflow_add-result
container-overflow_add-result t c =
    closing_rows _ _ _ _ _ _ _ _ c.requires.2 _ c.if-allow-eq0.false _ c.deeper-s.ensures _ c.children.ensures _ c.in_ok-c.was (end_small (inside_asked _ _ _ _ _ _ _ _ c.requires.2 _ c.if-allow-eq0.false _ c.deeper-s.ensures c.requires.0 c.args.v.content))

pub container-returns-then-closed : goal.container-returns-then-closed
container-returns-then-closed t c =
    closing_good _ _ _ _ _ _ _ _ c.requires.2 _ c.if-allow-eq0.false _ c.deeper-s.ensures _ c.children.ensures _ c.in_ok-c.was _ c.closed.ensures c.if-closed.true

pub container-returns : goal.container-returns
container-returns t c =
    closing_twice _ _ _ _ _ _ _ _ c.requires.2 _ c.if-allow-eq0.false _ c.deeper-s.ensures _ c.children.ensures _ c.in_ok-c.was _ c.closed.ensures c.if-closed.false

pub cut_value-returns-in_err-f : goal.cut_value-returns-in_err-f
cut_value-returns-in_err-f t c = rw c.from_residual.ensures (extent_no_value _ _ _ _ c.extent.ensures _ c.in_err-f.was)

pub pair-returns-in_err-k : goal.pair-returns-in_err-k
pair-returns-in_err-k t c = rw c.from_residual.ensures (pair_keyless _ _ _ _ _ c.key.ensures c.in_err-k.was)

pub pair-returns-in_err-w : goal.pair-returns-in_err-w
pair-returns-in_err-w t c = rw c.from_residual-in_err-w.ensures (pair_valueless _ _ _ _ _ c.key.ensures _ c.in_ok-k.was _ c.value.ensures c.in_err-w.was)

pub pair-overflow_add-result : goal.pair-overflow_add-result
pair-overflow_add-result t c = pair_rows _ _ _ _ _ c.key.ensures _ c.in_ok-k.was _ c.value.ensures _ c.in_ok-w.was (end_small c.args.v.content)

pub pair-overflow_add-result-2 : goal.pair-overflow_add-result-2
pair-overflow_add-result-2 t c = pair_bytes _ _ _ _ _ c.key.ensures _ c.in_ok-k.was _ c.value.ensures _ c.in_ok-w.was (end_small c.args.v.content)

pub pair-returns : goal.pair-returns
pair-returns t c = pair_both _ _ _ _ _ c.key.ensures _ c.in_ok-k.was _ c.value.ensures _ c.in_ok-w.was

pub stretch-returns-in_err-c : goal.stretch-returns-in_err-c
stretch-returns-in_err-c t c =
    rw c.from_residual-in_err-c.ensures (stretch_bad _ _ _ _ _ _ c.near_members.ensures _ c.in_ok-r.was _ c.child.ensures c.if-v-r.false c.in_err-c.was)

pub stretch-overflow_add-result : goal.stretch-overflow_add-result
stretch-overflow_add-result t c =
    stretch_count _ _ _ _ _ _ c.near_members.ensures _ c.in_ok-r.was _ c.child.ensures _ c.in_ok-c.was (end_small c.args.v.content)

pub stretch-overflow_add-result-2 : goal.stretch-overflow_add-result-2
stretch-overflow_add-result-2 t c =
    stretch_rows _ _ _ _ _ _ c.near_members.ensures _ c.in_ok-r.was _ c.child.ensures _ c.in_ok-c.was (end_small c.args.v.content)

pub stretch-overflow_add-result-3 : goal.stretch-overflow_add-result-3
stretch-overflow_add-result-3 t c =
    stretch_bytes _ _ _ _ _ _ c.near_members.ensures _ c.in_ok-r.was _ c.child.ensures _ c.in_ok-c.was (end_small c.args.v.content)

pub stretch-returns : goal.stretch-returns
stretch-returns t c = stretch_more _ _ _ _ _ _ c.near_members.ensures _ c.in_ok-r.was _ c.child.ensures _ c.in_ok-c.was

pub value-run_value-requires : goal.value-run_value-requires
value-run_value-requires t c = (run_few _ _ _ _ c.run_at-run.ensures, place_small c.args.v.content c.args.at c.requires.1)

pub value-returns-then-is_field : goal.value-returns-then-is_field
value-returns-then-is_field t c = near_value _ _ _ _ c.run_at-run.ensures _ c.is_field.ensures c.if-is_field.true _ _ c.run_value.ensures
