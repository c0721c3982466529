-- Blocks meet their contracts, one inside another: the allowance falls with each container, and within one the calls have an order.
use mathlib.Core.Path.{◌≡◌}
use Prim.Native.Nat.{◌*◌, ◌+◌, ◌-◌}
use lib.ListN.{length}
use Rattle.judge.proofs.NotingBlocks.{Noticed}
use Prim.Native.Nat.{ℕ}
use Rattle.judge.proofs.nesting.+behind_block_bullet_item_member_nested_property.Given as goal

abbrev pub invariant-block-loop-p : goal.invariant-block-loop-p
invariant-block-loop-p l =
    Noticed l.object l.allow l.col l.doc l.c l.initial.rows l.initial.text l.initial.keys l.rows l.text l.keys l.cur l.far l.count × (length l.rows ≡ length l.initial.rows) × (length l.text ≡ length l.initial.text) × (length l.keys ≡ length l.initial.keys)

abbrev pub decreases-block-loop-p : goal.decreases-block-loop-p
decreases-block-loop-p l = length l.doc - l.cur.at

abbrev pub decreases-behind : goal.decreases-behind
decreases-behind l = 8 * l.allow + 1

abbrev pub decreases-block : goal.decreases-block
decreases-block l = 8 * l.allow + 4

abbrev pub decreases-bullet : goal.decreases-bullet
decreases-bullet l = 8 * l.allow + 4

abbrev pub decreases-item : goal.decreases-item
decreases-item l = 8 * l.allow

abbrev pub decreases-member : goal.decreases-member
decreases-member l = 8 * l.allow + 3

abbrev pub decreases-nested : goal.decreases-nested
decreases-nested l = 8 * l.allow

abbrev pub decreases-property : goal.decreases-property
decreases-property l = 8 * l.allow + 2
