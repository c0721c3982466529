-- What the check does not find alone of `wide`.
use Rattle.spelt.specs.Spelling.{widening}
use Rattle.spelt.proofs.spelling.wide.Goals as goal

pub copy-requires : goal.copy-requires
copy-requires c = search widening

pub overflow_sub-rest : goal.overflow_sub-rest
overflow_sub-rest c = search widening
