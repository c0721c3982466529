-- `dash` meets its contract.
use Rattle.judge.proofs.Looking.{looking}
use Rattle.judge.proofs.look.dash.Goals as goal

pub take-requires : goal.take-requires
take-requires c = search looking

pub enum_told-1 : goal.enum_told-1
enum_told-1 c = search looking

pub enum_known-n : goal.enum_known-n
enum_known-n c = search looking

pub look-requires : goal.look-requires
look-requires c = search looking

pub returns-in-Err : goal.returns-in-Err
returns-in-Err c = search looking

pub returns-in-Ok : goal.returns-in-Ok
returns-in-Ok c = search looking
