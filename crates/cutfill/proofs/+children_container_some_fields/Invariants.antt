-- The cycle of containers and their children fills the rooms: the bytes become fewer from a container to what is inside it, and in the loop those that are left.
use mathlib.Core.Path.{◌≡◌}
use lib.ListN.{length}
use Prim.Native.Nat.{◌+◌, ◌-◌, ◌*◌}
use Rattle.cutfill.specs.Filling.{FillCut}
use Rattle.cutfill.specs.Steps.{Left}
use Rattle.cutfill.proofs.+children_container_some_fields.Given as goal

abbrev pub invariant-children-loop-at : goal.invariant-children-loop-at
invariant-children-loop-at l =
    ((h : FillCut l.v.stored.now l.v.starts.now l.v.d 0 l.v.n l.r l.up l.x) → Left l.v.stored.now l.v.starts.now l.v.d h.trees l.v.n l.r l.up l.x l.at l.row l.y l.n l.initial.table l.table l.initial.text l.text) × (length l.table ≡ length l.initial.table) × (length l.text ≡ length l.initial.text)

abbrev pub decreases-children-loop-at : goal.decreases-children-loop-at
decreases-children-loop-at l = l.v.n - l.at

abbrev pub decreases-children : goal.decreases-children
decreases-children l = 3 * l.v.n + 2

abbrev pub decreases-container : goal.decreases-container
decreases-container l = 3 * (l.f.end - l.at)

abbrev pub decreases-some_fields : goal.decreases-some_fields
decreases-some_fields l = 3 * (l.v.n - l.at) + 1
