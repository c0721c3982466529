-- `text_end` goes back over the rows to the last that has a text.
use mathlib.Core.Path.{◌≡◌}
use Rattle.fields.specs.Ends.{end_below}
use Rattle.fields.proofs.text_end.Given as goal

abbrev pub invariant-loop-r : goal.invariant-loop-r
invariant-loop-r l = end_below l.table l.rows ≡ end_below l.table l.r
