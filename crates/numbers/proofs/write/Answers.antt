-- What the check does not find alone of `write`.
use Rattle.numbers.proofs.NumberLaws.{write_laws}
use Rattle.numbers.proofs.write.Goals as goal

pub number_text-to-requires : goal.number_text-to-requires
number_text-to-requires c = search write_laws

pub put_leaf-n-requires-clause-small : goal.put_leaf-n-requires-clause-small
put_leaf-n-requires-clause-small c = search write_laws
