-- `escaped` gives the byte that a letter behind a backslash stands for, or the first of several.
use Rattle.spelt.specs.Spelling.{escaping}
use Rattle.spelt.proofs.spelling.escaped.Goals as goal

pub coded-requires : goal.coded-requires
coded-requires c = (search escaping, search escaping, search escaping, search escaping)
