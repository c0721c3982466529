-- `far_key_at` asks where the key stands, and tells of one before a cut by its bytes there, and of any other by its extent.
use Rattle.cutkeys.specs.Found.{key_lies, running}
use Rattle.cutkeys.proofs.keys.far_key_at.Goals as goal

pub near-r-requires : goal.near-r-requires
near-r-requires c = (key_lies _ _ _ _ _ c.requires).order

pub pair_key-requires : goal.pair_key-requires
pair_key-requires c = search running

pub returns-in-Some : goal.returns-in-Some
returns-in-Some c = search running
