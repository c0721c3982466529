-- What the check does not find alone of `integer_text`.
use Rattle.numbers.proofs.IntegerLaws.{integer_laws}
use Rattle.numbers.proofs.writing.integer_text.Goals as goal

pub returns-then-doc-z-eq48 : goal.returns-then-doc-z-eq48
returns-then-doc-z-eq48 c = search integer_laws

pub returns-then-neg : goal.returns-then-neg
returns-then-neg c = search integer_laws
