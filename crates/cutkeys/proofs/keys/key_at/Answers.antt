-- `key_at` tells of a key by its bytes where it is said to stand, if it and the head of its value's are before the cut, and asks for any other.
use Rattle.cutkeys.specs.Found.{running}
use Rattle.cutkeys.proofs.keys.key_at.Goals as goal

pub pair_key-requires : goal.pair_key-requires
pair_key-requires c = search running

pub returns-in-Some : goal.returns-in-Some
returns-in-Some c = search running
