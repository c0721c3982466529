-- `by_size` compares by length, then byte by byte.
use Rattle.std.proofs.Common.{rules}
use Rattle.std.specs.Ordering.{nat_cmp}
use Rattle.std.specs.Cmp.Lexicographic.{slice_cmp}
use Rattle.integers.specs.Contract.{by_size}
use Rattle.integers.proofs.OrderLaws.{then_answers}
use Rattle.integers.proofs.comparing.by_size.Goals as goal

pub returns : goal.returns
unfolding by_size
returns c = rw c.cmp.ensures at (then_answers c.cmp.result c.then_with.result (slice_cmp nat_cmp c.args.a.now c.args.b.now) c.then_with.ensures (λ p. search rules))
