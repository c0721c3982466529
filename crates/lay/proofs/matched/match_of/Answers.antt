-- `match_of` finds the row of a key's match: each turn, one key less is left.
use Rattle.lay.specs.Matching.{seek_start, seek_end, seek_named, seek_word, seek_ahead, seek_found, seek_on}
use native.Mathlib.Omega.{arith}
use Rattle.lay.proofs.matched.match_of.Goals as goal

pub loop-r-init : goal.loop-r-init
loop-r-init c = (λ h. seek_start _ _ _ _ _ h, omega arith)

pub same_key-requires : goal.same_key-requires
same_key-requires c = let h = c.requires.1 in (c.requires.0, seek_named _ _ _ _ _ _ _ (c.loop-r.invariant.0 h) c.loop-r-test.true)

pub returns-then-same_key : goal.returns-then-same_key
returns-then-same_key c = let g = c.requires.1 in (λ h. seek_found _ _ _ _ _ _ _ (c.loop-r.invariant.0 h) c.loop-r-test.true _ c.same_key.ensures c.if-same_key.true (omega (arith, h.some, c.loop-r.invariant.1)) h.few, omega (arith, g.few, c.loop-r-test.true))

pub word-r-requires : goal.word-r-requires
word-r-requires c = let h = c.requires.1 in seek_word _ _ _ _ _ _ _ (c.loop-r.invariant.0 h) c.loop-r-test.true

pub loop-r-smaller : goal.loop-r-smaller
loop-r-smaller c = let h = c.requires.1 in let a = seek_ahead _ _ _ _ _ _ _ (c.loop-r.invariant.0 h) c.loop-r-test.true c.word-r.ensures.0 in omega (arith, a.0, a.1)

pub loop-r-preserved : goal.loop-r-preserved
loop-r-preserved c = let h = c.requires.1 in let a = seek_ahead _ _ _ _ _ _ _ (c.loop-r.invariant.0 h) c.loop-r-test.true c.word-r.ensures.0 in (λ h. seek_on _ _ _ _ _ _ _ (c.loop-r.invariant.0 h) c.loop-r-test.true _ c.same_key.ensures c.if-same_key.false c.word-r.ensures.0, omega (arith, a.0, c.loop-r.invariant.1))

pub returns : goal.returns
returns c = (λ h. seek_end _ _ _ _ _ _ _ (c.loop-r.invariant.0 h) c.loop-r-test.false, omega arith)
