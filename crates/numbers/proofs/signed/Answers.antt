-- `signed` meets its contract: the byte behind the sign chooses the reader.
use Rattle.numbers.proofs.NumberLaws.{pair_laws}
use Rattle.numbers.proofs.signed.Goals as goal

pub returns-in-Ok : goal.returns-in-Ok
returns-in-Ok c = rw c.anew_far.ensures (search pair_laws)

pub returns-in-Err : goal.returns-in-Err
returns-in-Err c = rw c.anew_far-in-Err.ensures (search pair_laws)
