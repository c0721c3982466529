-- `news` stores the upper's new pairs: each turn, one key less is left.
use Rattle.lay.specs.Lowering.{news_word, news_first, newing_start, newing_end, newing_refill, newing_word, newing_next, newing_ahead, newing_adding, newing_on}
use mathlib.Core.Path.{refl}
use borrow.Author.Rules.{rules}
use native.Mathlib.Omega.{arith}
use Rattle.lay.proofs.objects.news.Goals as goal

pub word-stop-requires : goal.word-stop-requires
word-stop-requires c = news_word _ _ _ _ _ _ _ _ c.requires.0

pub overflow_add-q : goal.overflow_add-q
overflow_add-q c = omega (arith, news_first _ _ _ _ _ _ _ _ c.requires.0)

pub loop-q-init : goal.loop-q-init
loop-q-init c = (λ h e. newing_start _ _ _ _ _ _ _ _ h _ e _ _ refl refl, refl, refl, refl, omega arith, omega arith)

pub refill-left-requires : goal.refill-left-requires
refill-left-requires c = let h = c.requires.0 in let l = c.loop-q.invariant in (newing_refill _ _ _ _ _ _ _ _ h _ c.word-stop.ensures.0 _ _ _ _ _ _ _ _ _ _ (l.0 h c.word-stop.ensures.0) c.loop-q-test.true, c.loop-q-test.true, l.4, c.requires.1, omega (arith, l.3))

pub new_pair-g-requires : goal.new_pair-g-requires
new_pair-g-requires c = let h = c.requires.0 in let l = c.loop-q.invariant in (newing_adding _ _ _ _ _ _ _ _ h _ c.word-stop.ensures.0 _ _ _ _ _ _ _ _ _ _ (l.0 h c.word-stop.ensures.0) c.loop-q-test.true _ _ _ _ c.refill-left.ensures.0 c.marked-m.ensures, c.requires.2)

pub overflow_add-q-in-loop-q : goal.overflow_add-q-in-loop-q
overflow_add-q-in-loop-q c = let h = c.requires.0 in let l = c.loop-q.invariant in omega (arith, newing_next _ _ _ _ _ _ _ _ h _ c.word-stop.ensures.0 _ _ _ _ _ _ _ _ _ _ (l.0 h c.word-stop.ensures.0) c.loop-q-test.true)

pub word-q-requires : goal.word-q-requires
word-q-requires c = let h = c.requires.0 in let l = c.loop-q.invariant in newing_word _ _ _ _ _ _ _ _ h _ c.word-stop.ensures.0 _ _ _ _ _ _ _ _ _ _ (l.0 h c.word-stop.ensures.0) c.loop-q-test.true

pub loop-q-smaller : goal.loop-q-smaller
loop-q-smaller c = let h = c.requires.0 in let l = c.loop-q.invariant in let a = newing_ahead _ _ _ _ _ _ _ _ h _ c.word-stop.ensures.0 _ _ _ _ _ _ _ _ _ _ (l.0 h c.word-stop.ensures.0) c.loop-q-test.true c.word-q.ensures.0 in omega (arith, a.0, a.1)

pub loop-q-preserved : goal.loop-q-preserved
loop-q-preserved c = let l = c.loop-q.invariant in (λ h e. newing_on _ _ _ _ _ _ _ _ h _ e _ _ _ _ _ _ _ _ _ _ (l.0 h e) c.loop-q-test.true _ _ _ _ c.refill-left.ensures.0 c.marked-m.ensures _ _ _ c.new_pair-g.ensures c.word-q.ensures.0, search rules, search rules, search rules, c.refill-left.ensures.0.low, omega (arith, c.refill-left.ensures.0.some))

pub returns : goal.returns
returns c = λ h. newing_end _ _ _ _ _ _ _ _ h _ c.word-stop.ensures.0 _ _ _ _ _ _ _ _ _ _ (c.loop-q.invariant.0 h c.word-stop.ensures.0) c.loop-q-test.false
