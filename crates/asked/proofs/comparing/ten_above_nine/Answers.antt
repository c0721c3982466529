-- `ten_above_nine` holds by the contract of `compare`: the answer's verdict is that of P12.
use Rattle.std.proofs.Common.{ap, ◌∙◌, Ok}
use Rattle.std.specs.declared.cmp.Ordering.TheVariants.{Greater}
use Rattle.integers.specs.Ordered.{p12}
use Rattle.integers.specs.Unique.{verdict_tells}
use Rattle.asked.specs.Above.{is_above}
use Rattle.asked.proofs.comparing.ten_above_nine.Goals as goal

pub expect-requires : goal.expect-requires
expect-requires c = c.above.ensures ∙ ap is_above (verdict_tells c.compare.result (Ok Greater) (c.compare.ensures ∙ p12))
