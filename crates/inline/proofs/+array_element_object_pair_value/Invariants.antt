-- The cycle of values, arrays and objects meets its contracts. The allowance falls from a value to a container inside it; in the loops, what is left of the document falls.
use mathlib.Core.Bool.{true, false}
use Prim.Native.Nat.{◌+◌, ◌-◌, ◌*◌}
use mathlib.Core.Path.{◌≡◌}
use lib.ListN.{length}
use Rattle.inline.specs.Values.{value_r}
use Rattle.inline.proofs.Listing.{Loop}
use Rattle.inline.proofs.+array_element_object_pair_value.Given as goal

abbrev pub invariant-array-loop-next : goal.invariant-array-loop-next
invariant-array-loop-next l = Loop false (value_r false l.allow) l.doc l.c l.initial.rows l.initial.text l.initial.keys l.rows l.text l.keys l.cur l.count × (length l.rows ≡ length l.initial.rows) × (length l.text ≡ length l.initial.text) × (length l.keys ≡ length l.initial.keys)

abbrev pub decreases-array-loop-next : goal.decreases-array-loop-next
decreases-array-loop-next l = length l.doc - l.cur.at

abbrev pub invariant-object-loop-next : goal.invariant-object-loop-next
invariant-object-loop-next l = Loop true (value_r false l.allow) l.doc l.c l.initial.rows l.initial.text l.initial.keys l.rows l.text l.keys l.cur l.count × (length l.rows ≡ length l.initial.rows) × (length l.text ≡ length l.initial.text) × (length l.keys ≡ length l.initial.keys)

abbrev pub decreases-object-loop-next : goal.decreases-object-loop-next
decreases-object-loop-next l = length l.doc - l.cur.at

abbrev pub decreases-array : goal.decreases-array
decreases-array l = 4 * l.allow + 3

abbrev pub decreases-element : goal.decreases-element
decreases-element l = 4 * l.allow + 1

abbrev pub decreases-object : goal.decreases-object
decreases-object l = 4 * l.allow + 3

abbrev pub decreases-pair : goal.decreases-pair
decreases-pair l = 4 * l.allow + 2

abbrev pub decreases-value : goal.decreases-value
decreases-value l = 4 * l.allow
