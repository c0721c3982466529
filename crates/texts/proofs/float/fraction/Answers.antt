-- `fraction` tells digits, if any, and an exponent, if any. Assumes nothing.
use Rattle.texts.specs.Places.{fraction_told}
use Rattle.texts.proofs.float.fraction.Goals as goal

pub returns : goal.returns
returns g c = fraction_told _ _ _ c.digits.ensures c.powers.result c.powers.ensures
