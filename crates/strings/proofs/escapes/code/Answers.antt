-- `code` reads the digits of `\u{..}`. The loop's invariant: the digits up to e make v.
use Rattle.strings.proofs.CodeLaws.{codes}
use Rattle.strings.proofs.escapes.code.Goals as goal

pub loop-e-init : goal.loop-e-init
loop-e-init c = search codes

pub loop-e-preserved : goal.loop-e-preserved
loop-e-preserved c = search codes
