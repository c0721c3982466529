-- What the check does not find alone of `put_leaf`.
use Rattle.numbers.proofs.PutLaws.{put_laws}
use Rattle.numbers.proofs.put_leaf.Goals as goal

pub overflow_add-result : goal.overflow_add-result
overflow_add-result c = search put_laws
