-- What the check does not find alone of `fraction`.
use Rattle.numbers.proofs.TakeLaws.{fraction_laws}
use Rattle.numbers.proofs.scanning.fraction.Goals as goal

pub exponent-requires : goal.exponent-requires
exponent-requires c = search fraction_laws
