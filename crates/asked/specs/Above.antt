-- Whether an answer says that the left integer is the greater. Assumes nothing.
use Rattle.std.specs.Prelude.{Bool, true, false, Ok, Err}
use Rattle.std.specs.declared.cmp.Ordering.TheVariants.{Less, Equal, Greater}
use Rattle.integers.specs.Order.{Compared}

abbrev pub is_above : Compared → Bool
is_above (Ok Less) = false
is_above (Ok Equal) = false
is_above (Ok Greater) = true
is_above (Err _) = false
