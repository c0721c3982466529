-- `one_space` meets its contract: one space, none, or two.
use Rattle.judge.proofs.Looking.{spacing}
use Rattle.judge.proofs.look.one_space.Goals as goal

pub take-requires : goal.take-requires
take-requires c = search spacing

pub enum_known-n : goal.enum_known-n
enum_known-n c = search spacing

pub look-requires : goal.look-requires
look-requires c = search spacing

pub returns-then-look-eq32 : goal.returns-then-look-eq32
returns-then-look-eq32 c = search spacing

pub returns-in_err-n : goal.returns-in_err-n
returns-in_err-n c = search spacing

pub returns-else-look-eq32 : goal.returns-else-look-eq32
returns-else-look-eq32 c = search spacing
