-- `bad_byte` says whether the state after the byte at p is none.
use Rattle.characters.proofs.Chars.{chars}
use Rattle.characters.proofs.table.bad_byte.Goals as goal

pub returns : goal.returns
returns c = search chars
