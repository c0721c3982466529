-- `braced` reads the digits of `\u{..}` and the brace behind them.
use Rattle.strings.proofs.EscapeLaws.{bracing}
use Rattle.strings.proofs.escapes.braced.Goals as goal

pub overflow_add-result-2 : goal.overflow_add-result-2
overflow_add-result-2 c = search (bracing, c.in_ok-v.was)
