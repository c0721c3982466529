-- The cycle of values and members: a container has one container less allowed for what is inside it, and in the loop fewer bytes are left.
use Rattle.wide.specs.Walk.{Passed}
use Rattle.views.specs.Contents.{all}
use Prim.Native.Nat.{◌+◌, ◌-◌, ◌*◌}
use Rattle.cutvalues.proofs.+child_children_container_cut_value_pair_stretch_value.Given as goal

abbrev pub invariant-children-loop-at : goal.invariant-children-loop-at
invariant-children-loop-at l =
    Passed (all l.v) l.object l.allow 0 l.v.n l.at l.members l.rows l.bytes

abbrev pub decreases-children-loop-at : goal.decreases-children-loop-at
decreases-children-loop-at l = l.v.n - l.at

abbrev pub decreases-child : goal.decreases-child
decreases-child l = 8 * l.allow + 6

abbrev pub decreases-children : goal.decreases-children
decreases-children l = 8 * l.allow + 8

abbrev pub decreases-container : goal.decreases-container
decreases-container l = 8 * l.allow + 2

abbrev pub decreases-cut_value : goal.decreases-cut_value
decreases-cut_value l = 8 * l.allow + 3

abbrev pub decreases-pair : goal.decreases-pair
decreases-pair l = 8 * l.allow + 5

abbrev pub decreases-stretch : goal.decreases-stretch
decreases-stretch l = 8 * l.allow + 7

abbrev pub decreases-value : goal.decreases-value
decreases-value l = 8 * l.allow + 4
