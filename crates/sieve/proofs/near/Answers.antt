-- `near` tells whether a hash is among the first of a list. Assumes nothing.
use Rattle.std.proofs.Common.{◌≡◌, arith, rules, tests}
use Rattle.std.proofs.lemmas.Iterator.{cases_from_any, YieldsList-from_slice}
use Rattle.sieve.specs.Shown.{near_any}
use Rattle.sieve.proofs.near.Goals as goal

pub returns : goal.returns
returns c =
    let s = c.args in
    let xs = c.iter.result.rest.now in
    near_any s.keys.now xs c.list_at-at.result s.d s.n s.h c.list_at-at.ensures c.iter.ensures.rest (omega (arith, c.list_at-at.ensures)) c.any.result
    (cases_from_any _ _ _ (λ x. x ≡ s.h) (λ x. x ≡ s.h → ⊥) c.any.ensures.ran (YieldsList-from_slice xs cc) (λ x q k. search (rules, tests)) (λ x q k. search (rules, tests)))
