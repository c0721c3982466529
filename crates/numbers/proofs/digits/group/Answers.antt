-- What the check does not find alone of `group`.
use Rattle.numbers.proofs.DigitLaws.{digit_laws}
use Rattle.numbers.proofs.digits.group.Goals as goal

pub returns : goal.returns
returns c = search digit_laws
