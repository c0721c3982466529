-- `is_integer` tells an integer's text: `0`, or digits behind at most one minus.
use Rattle.std.proofs.Common.{refl, sym, ap, ◌∙◌, eqb}
use Rattle.std.specs.Cmp.Lexicographic.{pointwise}
use Rattle.integers.proofs.NumeralLaws.{zero_integer, rest_integer}
use Rattle.integers.proofs.integer.is_integer.Goals as goal

pub returns-then-eq : goal.returns-then-eq
returns-then-eq c = zero_integer c.args.s.now c.eq.result (c.eq.ensures ∙ ap (pointwise eqb c.args.s.now) c.as_slice.ensures) c.if-eq.true

pub returns-else-eq : goal.returns-else-eq
returns-else-eq c =
    let z = sym (c.eq.ensures ∙ ap (pointwise eqb c.args.s.now) c.as_slice.ensures) ∙ c.if-eq.false in
    let h = rest_integer c.args.s.now z c.strip_prefix.result c.args.s refl c.strip_prefix.ensures.cases in
    cc
