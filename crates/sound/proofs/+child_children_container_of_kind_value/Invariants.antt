-- The cycle of values and containers meets its contracts. The allowance falls from a container to what is inside it; in the loop, the rows that are left fall.
use Rattle.sound.proofs.CycleLaws.{Going}
use Prim.Native.Nat.{◌+◌, ◌-◌, ◌*◌}
use Rattle.sound.proofs.+child_children_container_of_kind_value.Given as goal

abbrev pub invariant-children-loop-at : goal.invariant-children-loop-at
invariant-children-loop-at l = Going l.table l.text l.object l.allow l.r l.x l.end l.at l.y l.n

abbrev pub decreases-children-loop-at : goal.decreases-children-loop-at
decreases-children-loop-at l = l.end - l.at

abbrev pub decreases-child : goal.decreases-child
decreases-child l = 5 * l.allow + 5

abbrev pub decreases-children : goal.decreases-children
decreases-children l = 5 * l.allow + 6

abbrev pub decreases-container : goal.decreases-container
decreases-container l = 5 * l.allow + 2

abbrev pub decreases-of_kind : goal.decreases-of_kind
decreases-of_kind l = 5 * l.allow + 3

abbrev pub decreases-value : goal.decreases-value
decreases-value l = 5 * l.allow + 4
