-- `exponent` meets its contract: the letter was taken; a sign and digits follow.
use mathlib.Core.Path.{◌≡◌}
use Rattle.exact.specs.Class.{and}
use Rattle.numbers.proofs.TakeLaws.{power_laws}
use Rattle.numbers.proofs.scanning.exponent.Goals as goal
use Rattle.numbers.proofs.scanning.exponent.Goals.{then-dense, else-dense}

pub returns : goal.returns
returns c =
    let Is : Type 0 = c.if-dense.float ≡ and c.args.dense c.group-g.result.dense in
    let z : Is = elim c.if-dense.branch as (λ _. Is) [ then-dense w ↦ rw w.if-dense.true (cc) | else-dense w ↦ rw w.if-dense.false (cc) ] in
    search (power_laws, z)
