-- `sparse` guesses no more than two rows at a byte, so its products are small.
use mathlib.Core.Path.{refl}
use native.Mathlib.Omega.{arith}
use native.Mathlib.Nat.{mul-le-mul}
use lib.ListN.{length}
use Rattle.exact.specs.Class.{clash}
use Rattle.language.specs.Answered.{limit}
use Rattle.reader.proofs.sparse.Goals as goal

pub returns-then-bytes-n : goal.returns-then-bytes-n
returns-then-bytes-n c = λ e. absurd (clash e refl)

pub overflow_mul-result : goal.overflow_mul-result
overflow_mul-result c = omega (arith, mul-le-mul {n₁ = c.loop-i.guessed} {m₁ = length c.args.doc.now} {n₂ = 1024} {m₂ = limit} (omega arith) (omega arith))
