-- The cycle of a container's lines and its children's meets its contracts: the rows below become fewer, and in the loop those that are left.
use mathlib.Core.Path.{◌≡◌}
use lib.ListN.{length, get_or, drop}
use Rattle.language.specs.Tree.{width}
use Rattle.language.specs.House as house
use Rattle.writer.specs.Lines.{Block}
use Rattle.writer.specs.Laid.{Rest}
use Prim.Native.Nat.{◌+◌, ◌-◌, ◌*◌, ◌<◌}
use Rattle.writer.proofs.Profile.+block_child_item_value.Given as goal

abbrev pub invariant-block-loop-at : goal.invariant-block-loop-at
invariant-block-loop-at l =
    ((h : Block l.self.table.now l.self.text.now l.r l.n l.lead l.x) → Rest l.self.table.now l.self.text.now l.x l.stop l.n l.item (drop (l.n - l.lead) (house.block l.n h.tree)) l.at l.y l.m l.initial.out l.out) × (length l.out ≡ length l.initial.out) × (l.r < l.at)

abbrev pub decreases-block-loop-at : goal.decreases-block-loop-at
decreases-block-loop-at l = l.stop - l.at

abbrev pub decreases-block : goal.decreases-block
decreases-block l = 3 * (get_or l.self.now.table.now (width * l.r + 6) 0 - l.r)

abbrev pub decreases-child : goal.decreases-child
decreases-child l = 3 * (get_or l.self.now.table.now (width * l.r + 6) 0 - l.r) + 2

abbrev pub decreases-item : goal.decreases-item
decreases-item l = 3 * (get_or l.self.now.table.now (width * l.r + 6) 0 - l.r) + 1

abbrev pub decreases-value : goal.decreases-value
decreases-value l = 3 * (get_or l.self.now.table.now (width * l.r + 6) 0 - l.r) + 1
