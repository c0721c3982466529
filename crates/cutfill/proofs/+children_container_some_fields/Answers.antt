-- The cycle of containers and their children fills the rooms: the bytes become fewer from a container to what is inside it, and in the loop those that are left.
use mathlib.Core.Path.{refl, ◌∙◌}
use Rattle.cutfill.specs.Steps.{left_start, left_end}
use Rattle.cutfill.proofs.FieldLaws.{node_opens, node_fewer, node_children, node_row, node_told, node_content}
use Rattle.cutfill.proofs.StepLaws.{some_passes, some_passed, some_none, some_node, some_leaf, some_fewer, some_one, turn_room, turn_count, turn_less, turn_again}
use native.Mathlib.Omega.{arith}
use Rattle.cutfill.proofs.+children_container_some_fields.Goals as goal

pub children-loop-at-init : goal.children-loop-at-init
children-loop-at-init t c = (λ h. left_start _ _ _ h, refl, refl)

pub children-some_fields-f-requires : goal.children-some_fields-f-requires
children-some_fields-f-requires t c =
    (omega (arith, c.decreases), (c.loop-at-test.true, turn_room c.requires c.loop-at.invariant.0 c.loop-at.invariant.2))

pub children-overflow_add-n : goal.children-overflow_add-n
children-overflow_add-n t c =
    turn_count c.requires c.loop-at.invariant.0 c.some_fields-f.ensures

pub children-loop-at-smaller : goal.children-loop-at-smaller
children-loop-at-smaller t c =
    turn_less c.requires c.loop-at.invariant.0 c.some_fields-f.ensures

pub children-loop-at-preserved : goal.children-loop-at-preserved
children-loop-at-preserved t c =
    (turn_again c.requires c.loop-at.invariant.0 c.some_fields-f.ensures, c.some_fields-f.auto.table ∙ c.loop-at.invariant.1, c.some_fields-f.auto.text ∙ c.loop-at.invariant.2)

pub children-returns : goal.children-returns
children-returns t c = λ h. left_end _ _ _ (c.loop-at.invariant.0 h) c.loop-at-test.false

pub container-deeper-s-requires : goal.container-deeper-s-requires
container-deeper-s-requires t c = node_opens _ _ _ _ _ _ _ _ _ _ _ c.requires

pub container-invariant_of-content : goal.container-invariant_of-content
container-invariant_of-content t c = record { content = node_content _ _ _ _ _ _ _ _ _ _ _ c.requires c.deeper-s.ensures }

pub container-children-c-requires : goal.container-children-c-requires
container-children-c-requires t c =
    (node_fewer _ _ _ _ _ _ _ _ _ _ _ c.requires _ c.decreases, node_children _ _ _ _ _ _ _ _ _ _ _ c.requires c.deeper-s.ensures)

pub container-row_at-requires : goal.container-row_at-requires
container-row_at-requires t c =
    node_row _ _ _ _ _ _ _ _ _ _ _ c.requires c.deeper-s.ensures c.children-c.ensures c.members-n.ensures

pub container-returns : goal.container-returns
container-returns t c =
    λ h. node_told _ _ _ _ _ _ _ _ _ _ _ c.requires c.deeper-s.ensures c.children-c.ensures c.members-n.ensures h c.row_at.ensures

pub some_fields-passed-requires : goal.some_fields-passed-requires
some_fields-passed-requires t c =
    some_passes c.requires.1 c.whole-w.ensures

pub some_fields-returns-then-w-gt0 : goal.some_fields-returns-then-w-gt0
some_fields-returns-then-w-gt0 t c =
    some_passed c.requires.1 c.whole-w.ensures c.if-w-gt0.true c.passed.ensures

pub some_fields-container-requires : goal.some_fields-container-requires
some_fields-container-requires t c =
    (some_fewer c.requires.1 c.extent.ensures c.in-Some.is _ c.decreases, some_node c.requires.1 c.extent.ensures c.in-Some.is c.is_container.ensures c.if-is_container.true)

pub some_fields-returns-then-is_container : goal.some_fields-returns-then-is_container
some_fields-returns-then-is_container t c =
    some_one c.requires.1 c.extent.ensures c.in-Some.is c.container.ensures

pub some_fields-leaf-requires : goal.some_fields-leaf-requires
some_fields-leaf-requires t c =
    some_leaf c.requires.1 c.extent.ensures c.in-Some.is c.is_container.ensures c.if-is_container.false

pub some_fields-returns-in-None : goal.some_fields-returns-in-None
some_fields-returns-in-None t c =
    λ h. absurd (some_none c.requires.1 c.extent.ensures c.requires.0 c.in-None.is)

pub some_fields-returns-else-is_container : goal.some_fields-returns-else-is_container
some_fields-returns-else-is_container t c =
    some_one c.requires.1 c.extent.ensures c.in-Some.is c.leaf.ensures
