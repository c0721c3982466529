-- The cycle of a row's field, its content and its children's fields meets its contracts: the rows below become fewer, and in the loop those that are left.
use mathlib.Core.Path.{◌≡◌}
use lib.ListN.{length, get_or}
use Rattle.language.specs.Tree.{width}
use Rattle.fields.specs.Fields.{Fields, Left}
use Prim.Native.Nat.{◌+◌, ◌-◌, ◌*◌, ◌≤◌}
use Rattle.fields.proofs.+content_field_fields.Given as goal

abbrev pub invariant-fields-loop-at : goal.invariant-fields-loop-at
invariant-fields-loop-at l =
    ((h : Fields l.table l.text (length l.initial.out) l.from l.stop l.x) → Left l.table l.text l.x l.stop h.trees l.at l.y l.initial.out l.out) × (length l.out ≡ length l.initial.out) × (l.from ≤ l.at)

abbrev pub decreases-fields-loop-at : goal.decreases-fields-loop-at
decreases-fields-loop-at l = l.stop - l.at

abbrev pub decreases-content : goal.decreases-content
decreases-content l = 3 * (get_or l.table.now (width * l.r + 6) 0 - l.r)

abbrev pub decreases-field : goal.decreases-field
decreases-field l = 3 * (get_or l.table.now (width * l.r + 6) 0 - l.r) + 1

abbrev pub decreases-fields : goal.decreases-fields
decreases-fields l = 3 * (l.stop - l.from) + 2
