-- `cut_key_at` goes by the extents of the key and of its value.
use Rattle.cutkeys.specs.Found.{keying}
use Rattle.cutkeys.proofs.keys.cut_key_at.Goals as goal

pub whole_text-text-requires : goal.whole_text-text-requires
whole_text-text-requires c = search keying
