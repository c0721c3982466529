-- `compare` gives the verdict of document 01, the left text tested first.
use Rattle.std.proofs.Common.{sym, ◌∙◌}
use Rattle.integers.proofs.OrderLaws.{compare_left, compare_right, compare_both}
use Rattle.integers.proofs.comparing.compare.Goals as goal
use Rattle.integers.proofs.comparing.compare.Goals.{else-is_integer-via-then-is_integer+else-is_integer-2, else-is_integer-via-else-is_integer}

pub returns-then-is_integer-2 : goal.returns-then-is_integer-2
returns-then-is_integer-2 c =
    compare_both _ _ (sym c.is_integer.ensures ∙ c.if-is_integer.true) (sym c.is_integer-then-is_integer.ensures ∙ c.if-is_integer-2.true) _ c.ordered.ensures

pub returns-else-is_integer : goal.returns-else-is_integer
returns-else-is_integer c =
    elim c.else-is_integer.branch [
      | else-is_integer-via-then-is_integer+else-is_integer-2 w ↦
          compare_right _ _ (sym c.is_integer.ensures ∙ w.if-is_integer.true) (sym w.is_integer-then-is_integer.ensures ∙ w.if-is_integer-2.false)
      | else-is_integer-via-else-is_integer w ↦ compare_left _ _ (sym c.is_integer.ensures ∙ w.if-is_integer.false)
    ]
