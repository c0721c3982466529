-- The cycle of containers and their children fills the rooms: the bytes become fewer from a container to what is inside it, and in the loop those that are left.
use mathlib.Core.Path.{◌≡◌}
use lib.ListN.{length}
use Rattle.uncut.specs.Filling.{FillAll}
use Rattle.uncut.specs.Children.{Left}
use Prim.Native.Nat.{◌+◌, ◌-◌, ◌*◌, ◌≤◌}
use Rattle.uncut.proofs.filling.+children_container.Given as goal

abbrev pub invariant-children-loop-at : goal.invariant-children-loop-at
invariant-children-loop-at l = ((h : FillAll l.stored l.base l.from l.stop l.r l.parent l.x) → Left l.stored h.trees l.base l.from l.stop l.r l.parent l.x l.at l.row l.y l.n l.initial.table l.table l.initial.text l.text) × (length l.table ≡ length l.initial.table) × (length l.text ≡ length l.initial.text) × (l.from ≤ l.at)

abbrev pub decreases-children-loop-at : goal.decreases-children-loop-at
decreases-children-loop-at l = l.stop - l.at

abbrev pub decreases-children : goal.decreases-children
decreases-children l = 2 * (l.stop - l.from) + 1

abbrev pub decreases-container : goal.decreases-container
decreases-container l = 2 * (l.end - l.at)
