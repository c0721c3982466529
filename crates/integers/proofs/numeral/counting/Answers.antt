-- `counting` tells digits without a leading zero.
use Rattle.std.proofs.Common.{drop, arith, rules, tests}
use Rattle.std.specs.Char.{is_ascii_digit}
use Rattle.std.proofs.lemmas.Grind.{common_steps}
use Rattle.std.proofs.lemmas.Iterator.{YieldsList-from_slice}
use Rattle.std.proofs.lemmas.Iterator.Search.{all_from_yields_List}
use Rattle.integers.proofs.NumeralLaws.{counting_none, counting_low, counting_high, counting_rest}
use Rattle.integers.proofs.numeral.counting.Goals as goal

pub returns-in-49-to-57 : goal.returns-in-49-to-57
returns-in-49-to-57 c =
    counting_rest c.args.s.now (omega arith) (omega arith) c.all.result
    (all_from_yields_List is_ascii_digit _ _ _ c.all.ensures.ran (YieldsList-from_slice (drop 1 c.args.s.now) (grind (arith, common_steps))) (λ x b q k. search (rules, tests)))

pub returns-in_default : goal.returns-in_default
returns-in_default c = search (rules, counting_none)

pub returns-in_default-2 : goal.returns-in_default-2
returns-in_default-2 c = search (rules, counting_low)

pub returns-in_default-3 : goal.returns-in_default-3
returns-in_default-3 c = search (rules, counting_high)
