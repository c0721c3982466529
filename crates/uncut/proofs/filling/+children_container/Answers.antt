-- The cycle of containers and their children fills the rooms: the bytes become fewer from a container to what is inside it, and in the loop those that are left.
use Rattle.uncut.proofs.FillLaws.{fill_begins, fill_inside, fill_few, node_children, node_fewer, node_placing, node_told, node_filling, left_count, left_row, left_asked, left_falls, left_node, left_leaf, left_again}
use borrow.Author.Rules.{rules}
use mathlib.Core.Path.{refl, ap, ◌∙◌}
use Rattle.uncut.proofs.filling.+children_container.Goals.{children-then-is_container, children-else-is_container}
use native.Mathlib.Omega.{arith}
use lib.ListN.{length}
use Rattle.uncut.specs.Children.{left_start, left_end}
use Rattle.uncut.proofs.filling.+children_container.Goals as goal

pub children-loop-at-init : goal.children-loop-at-init
children-loop-at-init t c = (λ h. left_start _ h, refl, refl, omega arith)

pub children-behind-end-requires : goal.children-behind-end-requires
children-behind-end-requires t c = let w = left_asked c.requires c.loop-at.invariant.0 c.loop-at.invariant.2 c.loop-at-test.true in (fill_begins _ _ _ _ _ _ w, fill_few _ _ _ _ _ _ w)

pub children-is_container-requires : goal.children-is_container-requires
children-is_container-requires t c = fill_inside _ _ _ _ _ _ (left_asked c.requires c.loop-at.invariant.0 c.loop-at.invariant.2 c.loop-at-test.true)

pub children-container-f-requires : goal.children-container-f-requires
children-container-f-requires t c =
    let a = left_falls c.requires c.loop-at.invariant.0 c.loop-at.invariant.2 c.loop-at-test.true _ c.behind-end.ensures.is in
    (omega (arith, c.decreases, a.0, a.1, c.loop-at.invariant.3), left_node c.requires c.loop-at.invariant.0 c.loop-at.invariant.2 c.loop-at-test.true c.behind-end.ensures c.is_container.ensures c.if-is_container.true)

pub children-leaf-y-requires : goal.children-leaf-y-requires
children-leaf-y-requires t c = left_leaf c.requires c.loop-at.invariant.0 c.loop-at.invariant.2 c.loop-at-test.true c.behind-end.ensures c.is_container.ensures c.if-is_container.false

pub children-overflow_add-row : goal.children-overflow_add-row
children-overflow_add-row t c = let m = left_row c.requires c.loop-at.invariant.0 c.loop-at.invariant.2 in search rules

pub children-overflow_add-n : goal.children-overflow_add-n
children-overflow_add-n t c = let m = left_count c.requires c.loop-at.invariant.0 c.loop-at.invariant.2 in search rules

pub children-loop-at-smaller : goal.children-loop-at-smaller
children-loop-at-smaller t c =
    let a = left_falls c.requires c.loop-at.invariant.0 c.loop-at.invariant.2 c.loop-at-test.true _ c.behind-end.ensures.is in
    omega (arith, a.0, a.1)

pub children-loop-at-preserved : goal.children-loop-at-preserved
children-loop-at-preserved t c =
    let g = c.requires in
    let l = c.loop-at.invariant in
    let k = c.loop-at-test.true in
    let b = c.behind-end.ensures in
    let a = left_falls g l.0 l.2 k _ b.is in
    elim c.if-is_container.branch [
      | children-then-is_container w ↦ (left_again g l.0 l.2 k b w.container-f.ensures w.table-is w.text-is w.row-is w.y-is, ap length w.table-is ∙ (w.container-f.auto.table ∙ l.1), ap length w.text-is ∙ (w.container-f.auto.text ∙ l.2), omega (arith, a.0, l.3))
      | children-else-is_container w ↦ (left_again g l.0 l.2 k b w.leaf-y.ensures w.table-is w.text-is w.row-is w.y-is, ap length w.table-is ∙ (w.leaf-y.auto.table ∙ l.1), ap length w.text-is ∙ (w.leaf-y.auto.text ∙ l.2), omega (arith, a.0, l.3))
    ]

pub children-returns : goal.children-returns
children-returns t c = λ h. left_end _ (c.loop-at.invariant.0 h) c.loop-at-test.false

pub container-overflow_add-at : goal.container-overflow_add-at
container-overflow_add-at t c = search node_filling

pub container-overflow_add-r : goal.container-overflow_add-r
container-overflow_add-r t c = search node_filling

pub container-children-f-requires : goal.container-children-f-requires
container-children-f-requires t c = (node_fewer _ _ _ _ _ _ _ _ c.requires _ c.decreases, node_children _ _ _ _ _ _ _ _ c.requires)

pub container-members-n-requires : goal.container-members-n-requires
container-members-n-requires t c = search node_filling

pub container-place-requires : goal.container-place-requires
container-place-requires t c = node_placing _ _ _ _ _ _ _ _ c.requires _ _ _ _ _ _ _ c.children-f.ensures _ c.members-n.ensures

pub container-shape_of-table : goal.container-shape_of-table
container-shape_of-table t c = search node_filling

pub container-shape_of-text : goal.container-shape_of-text
container-shape_of-text t c = search node_filling

pub container-returns : goal.container-returns
container-returns t c = λ h. node_told _ _ _ _ _ _ _ _ c.requires _ _ _ _ _ _ _ c.children-f.ensures _ c.members-n.ensures h _ c.place.ensures
