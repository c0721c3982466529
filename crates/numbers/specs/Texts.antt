-- The text of a number from its sign and its digits. Assumes nothing.
use Rattle.std.specs.Prelude.{List, [], ◌∷◌, ◌++◌, Bool, true, false, ℕ, eqb}
use Rattle.notation.specs.Class.{pick}
use Rattle.language.specs.Kind.{INTEGER}
use Rattle.language.specs.Scalars.{signed}

abbrev pub minus_of : Bool → List ℕ
minus_of true = 45 ∷ []
minus_of false = []

abbrev pub number_text : ℕ → List ℕ → List ℕ → List ℕ
number_text kind m w = pick (eqb kind INTEGER) (signed m w) (m ++ w)
