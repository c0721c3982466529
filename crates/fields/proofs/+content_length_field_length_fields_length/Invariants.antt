-- The cycle that counts the bytes of fields meets its contracts: the rows below become fewer, and in the loop those that are left.
use lib.ListN.{get_or}
use Rattle.language.specs.Tree.{width}
use Rattle.fields.specs.Measured.{MeasuredAll, Counted}
use Prim.Native.Nat.{◌+◌, ◌-◌, ◌*◌, ◌≤◌}
use Rattle.fields.proofs.+content_length_field_length_fields_length.Given as goal

abbrev pub invariant-fields_length-loop-row : goal.invariant-fields_length-loop-row
invariant-fields_length-loop-row l = ((h : MeasuredAll l.table l.from l.stop) → Counted l.table h.text l.stop h.trees l.row l.n) × (l.from ≤ l.row)

abbrev pub decreases-fields_length-loop-row : goal.decreases-fields_length-loop-row
decreases-fields_length-loop-row l = l.stop - l.row

abbrev pub decreases-content_length : goal.decreases-content_length
decreases-content_length l = 3 * (get_or l.table.now (width * l.r + 6) 0 - l.r)

abbrev pub decreases-field_length : goal.decreases-field_length
decreases-field_length l = 3 * (get_or l.table.now (width * l.r + 6) 0 - l.r) + 1

abbrev pub decreases-fields_length : goal.decreases-fields_length
decreases-fields_length l = 3 * (l.stop - l.from) + 2
