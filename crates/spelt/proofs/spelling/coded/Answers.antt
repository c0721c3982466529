-- What the check does not find alone of `coded`.
use Rattle.spelt.specs.Spelling.{coding}
use Rattle.spelt.proofs.spelling.coded.Goals as goal

pub scalar_escape-requires : goal.scalar_escape-requires
scalar_escape-requires c = search coding

pub returns-in_default : goal.returns-in_default
returns-in_default c = search coding
