-- What the check does not find alone of `put_solid`.
use Rattle.numbers.proofs.TextLaws.{squeeze_laws}
use Rattle.numbers.proofs.writing.put_solid.Goals as goal

pub returns-then-b-eq32 : goal.returns-then-b-eq32
returns-then-b-eq32 c = search squeeze_laws

pub returns : goal.returns
returns c = search squeeze_laws
