-- What the check does not find alone of `number_text`.
use Rattle.numbers.proofs.IntegerLaws.{text_laws}
use Rattle.numbers.proofs.writing.number_text.Goals as goal

pub store-requires-clause-dense : goal.store-requires-clause-dense
store-requires-clause-dense c = search text_laws

pub returns : goal.returns
returns c = search text_laws
