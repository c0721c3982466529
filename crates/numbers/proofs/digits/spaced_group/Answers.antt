-- What the check does not find alone of `spaced_group`.
use Rattle.numbers.proofs.DigitLaws.{digit_laws}
use Rattle.numbers.proofs.digits.spaced_group.Goals as goal

pub returns-then-end-r : goal.returns-then-end-r
returns-then-end-r c = search digit_laws

pub loop-at-init : goal.loop-at-init
loop-at-init c = search digit_laws

pub loop-at-preserved : goal.loop-at-preserved
loop-at-preserved c = search digit_laws

pub returns : goal.returns
returns c = search digit_laws
