-- `few_matches` marks the keys of an object one after another: each turn, one key less is left.
use Rattle.lay.specs.Matching.{match_word, match_seek, match_mark, mark_word, fill_start, fill_end, fill_named, fill_word, fill_ahead, fill_on}
use mathlib.Core.Path.{refl}
use lib.ListN.{length-set}
use native.Mathlib.Omega.{arith}
use Rattle.lay.proofs.matched.few_matches.Goals as goal

pub word-stop-requires : goal.word-stop-requires
word-stop-requires c = match_word _ _ _ _ _ _ _ c.requires.0

pub loop-r-init : goal.loop-r-init
loop-r-init c = (λ h. fill_start _ _ _ _ _ _ _ h, refl, omega arith, λ l. omega arith, omega arith)

pub returns-then-n-most : goal.returns-then-n-most
returns-then-n-most c = let l = c.loop-r.invariant in record { some = λ e. omega (arith, c.if-n-most.true, l.1, c.requires.1); low = omega (arith, c.if-n-most.true); marked = λ h. fill_end _ _ _ _ _ _ _ h _ _ _ (l.0 h) }

pub overflow_add-s : goal.overflow_add-s
overflow_add-s c = omega (arith, match_word _ _ _ _ _ _ _ c.requires.0)

pub match_of-requires : goal.match_of-requires
match_of-requires c = let h = c.requires.0 in (fill_named _ _ _ _ _ _ _ h _ _ _ (c.loop-r.invariant.0 h) c.loop-r-test.true, match_seek _ _ _ _ _ _ _ h _ c.word-stop.ensures.0)

pub word-r-requires : goal.word-r-requires
word-r-requires c = let h = c.requires.0 in fill_word _ _ _ _ _ _ _ h _ _ _ (c.loop-r.invariant.0 h) c.loop-r-test.true

pub loop-r-smaller : goal.loop-r-smaller
loop-r-smaller c = let h = c.requires.0 in let a = fill_ahead _ _ _ _ _ _ _ h _ _ _ (c.loop-r.invariant.0 h) c.loop-r-test.true c.word-r.ensures.0 in omega (arith, a.0, a.1)

pub loop-r-preserved : goal.loop-r-preserved
loop-r-preserved c = let h = c.requires.0 in let l = c.loop-r.invariant in let a = fill_ahead _ _ _ _ _ _ _ h _ _ _ (l.0 h) c.loop-r-test.true c.word-r.ensures.0 in (λ h. fill_on _ _ _ _ _ _ _ h _ _ _ (l.0 h) c.loop-r-test.true _ c.word-r.ensures.0 (omega (arith, c.if-n-most.false, l.1, l.2, c.requires.2)) (mark_word c.unwrap_or.ensures (match_mark _ _ _ _ _ _ _ h _ c.word-stop.ensures.0 c.match_of.ensures.0)), simp length-set l.1, omega (arith, c.if-n-most.false, l.1, l.2), λ e. omega arith, omega (arith, a.0, l.4))

pub returns : goal.returns
returns c = let l = c.loop-r.invariant in record { some = λ e. l.3 (omega (arith, c.loop-r-test.false)); low = omega (arith, l.2); marked = λ h. fill_end _ _ _ _ _ _ _ h _ _ _ (l.0 h) }
