-- The cycle of values and containers meets its contracts. The allowance falls from a container to what is inside it; in the loop, the bytes that are left fall.
use Rattle.uncut.proofs.CycleLaws.{Going}
use Prim.Native.Nat.{◌+◌, ◌-◌, ◌*◌}
use Rattle.uncut.proofs.tested.+child_children_container_member_of_kind_pair_value.Given as goal

abbrev pub invariant-children-loop-at : goal.invariant-children-loop-at
invariant-children-loop-at l = Going l.stored l.object l.allow l.from l.end l.at l.n l.rows

abbrev pub decreases-children-loop-at : goal.decreases-children-loop-at
decreases-children-loop-at l = l.end - l.at

abbrev pub decreases-child : goal.decreases-child
decreases-child l = 7 * l.allow + 6

abbrev pub decreases-children : goal.decreases-children
decreases-children l = 7 * l.allow + 7

abbrev pub decreases-container : goal.decreases-container
decreases-container l = 7 * l.allow + 1

abbrev pub decreases-member : goal.decreases-member
decreases-member l = 7 * l.allow + 4

abbrev pub decreases-of_kind : goal.decreases-of_kind
decreases-of_kind l = 7 * l.allow + 2

abbrev pub decreases-pair : goal.decreases-pair
decreases-pair l = 7 * l.allow + 5

abbrev pub decreases-value : goal.decreases-value
decreases-value l = 7 * l.allow + 3
