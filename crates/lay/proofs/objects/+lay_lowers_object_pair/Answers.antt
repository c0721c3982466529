-- The cycle of one value over another meets its contracts: the containers that may still stand one inside another become fewer, and in the loop the keys that are left.
use Rattle.lay.specs.Laying.{lay_lower_word, lay_upper_word, lay_objects, lay_object_told, lay_one, lay_other, lay_keep, lay_kept, pair_key, pair_there, pair_next, pair_alone, pair_kept, pair_two, pair_laid}
use Rattle.lay.specs.Lowering.{lowers_word, lowers_first, going_start, going_end, going_refill, going_word, going_next, going_ahead, going_topping, going_clash, going_on, object_word, object_some, object_room, object_lowers, object_clash, object_news, object_count, object_next, object_done}
use Rattle.lay.specs.Matching.{lent_agree, refilled_room, refilled_few}
use Rattle.std.proofs.lemmas.Result.{err_from_is_err_and}
use mathlib.Core.Path.{refl, ◌∙◌}
use native.Mathlib.Omega.{arith}
use borrow.Author.Rules.{rules}
use Rattle.lay.proofs.objects.+lay_lowers_object_pair.Goals as goal

pub lay-word-requires : goal.lay-word-requires
lay-word-requires t c = lay_lower_word _ _ _ _ _ _ _ _ c.requires.0

pub lay-word-requires-then-word-eq9 : goal.lay-word-requires-then-word-eq9
lay-word-requires-then-word-eq9 t c = lay_upper_word _ _ _ _ _ _ _ _ c.requires.0

pub lay-object-requires : goal.lay-object-requires
lay-object-requires t c = (omega (arith, c.decreases), (lay_objects _ _ _ _ _ _ _ _ c.requires.0 c.word.ensures.0 c.word-then-word-eq9.ensures.0 c.if-word-eq9.true c.if-word-eq9-2.true, c.requires.1, c.requires.2, c.requires.3))

pub lay-returns-then-word-eq9-2 : goal.lay-returns-then-word-eq9-2
lay-returns-then-word-eq9-2 t c = λ h. lay_object_told _ _ _ _ _ _ _ _ h c.word.ensures.0 c.word-then-word-eq9.ensures.0 c.if-word-eq9.true c.if-word-eq9-2.true c.object.ensures

pub lay-returns-then-word-eq9 : goal.lay-returns-then-word-eq9
lay-returns-then-word-eq9 t c = λ h. lay_one _ _ _ _ _ _ _ _ h c.word.ensures.0 c.word-then-word-eq9.ensures.0 c.if-word-eq9.true c.if-word-eq9-2.false

pub lay-word-requires-2 : goal.lay-word-requires-2
lay-word-requires-2 t c = lay_upper_word _ _ _ _ _ _ _ _ c.requires.0

pub lay-returns-then-word-eq9-3 : goal.lay-returns-then-word-eq9-3
lay-returns-then-word-eq9-3 t c = λ h. lay_other _ _ _ _ _ _ _ _ h c.word.ensures.0 c.word-2.ensures.0 c.if-word-eq9.false c.if-word-eq9-3.true

pub lay-kept-requires : goal.lay-kept-requires
lay-kept-requires t c = (lay_keep _ _ _ _ _ _ _ _ c.requires.0 c.word.ensures.0 c.word-2.ensures.0 c.if-word-eq9.false, c.requires.2)

pub lay-returns : goal.lay-returns
lay-returns t c = λ h. lay_kept _ _ _ _ _ _ _ _ h c.word.ensures.0 c.word-2.ensures.0 c.if-word-eq9.false c.if-word-eq9-3.false c.kept.ensures

pub lowers-word-stop-requires : goal.lowers-word-stop-requires
lowers-word-stop-requires t c = lowers_word _ _ _ _ _ _ _ _ c.requires.0

pub lowers-overflow_add-q : goal.lowers-overflow_add-q
lowers-overflow_add-q t c = omega (arith, lowers_first _ _ _ _ _ _ _ _ c.requires.0)

pub lowers-loop-q-init : goal.lowers-loop-q-init
lowers-loop-q-init t c = (λ h e. going_start _ _ _ _ _ _ _ _ h _ e _, refl, refl, refl, omega arith, omega arith, omega (arith, c.requires.1))

pub lowers-refill-left-requires : goal.lowers-refill-left-requires
lowers-refill-left-requires t c = let h = c.requires.0 in let l = c.loop-q.invariant in (going_refill _ _ _ _ _ _ _ _ h _ c.word-stop.ensures.0 _ _ _ _ _ _ _ _ _ _ (l.0 h c.word-stop.ensures.0) c.loop-q-test.true, c.loop-q-test.true, l.4, omega (arith, l.6, c.requires.1), omega (arith, l.3, l.6))

pub lowers-pair-requires : goal.lowers-pair-requires
lowers-pair-requires t c = let h = c.requires.0 in let l = c.loop-q.invariant in (omega (arith, c.decreases), (going_topping _ _ _ _ _ _ _ _ h _ c.word-stop.ensures.0 _ _ _ _ _ _ _ _ _ _ (l.0 h c.word-stop.ensures.0) c.loop-q-test.true _ _ _ _ c.refill-left.ensures.0 c.marked-m.ensures, refilled_room c.refill-left.ensures.0 (c.refill-left.ensures.1 ∙ l.3) _ l.6, c.requires.2, refilled_few c.refill-left.ensures.0 (c.refill-left.ensures.1 ∙ l.3) _ l.6 _ c.requires.3))

pub lowers-returns-in_err-y : goal.lowers-returns-in_err-y
lowers-returns-in_err-y t c = let l = c.loop-q.invariant in let p = err_from_is_err_and c.from_residual.result c.from_residual.ensures.1 in λ h. rw p.1 (going_clash _ _ _ _ _ _ _ _ h _ c.word-stop.ensures.0 _ _ _ _ _ _ _ _ _ _ (l.0 h c.word-stop.ensures.0) c.loop-q-test.true _ _ _ _ c.refill-left.ensures.0 c.marked-m.ensures _ _ _ c.pair.ensures c.in_err-y.was)

pub lowers-overflow_add-q-in-loop-q : goal.lowers-overflow_add-q-in-loop-q
lowers-overflow_add-q-in-loop-q t c = let h = c.requires.0 in let l = c.loop-q.invariant in omega (arith, going_next _ _ _ _ _ _ _ _ h _ c.word-stop.ensures.0 _ _ _ _ _ _ _ _ _ _ (l.0 h c.word-stop.ensures.0) c.loop-q-test.true)

pub lowers-word-q-requires : goal.lowers-word-q-requires
lowers-word-q-requires t c = let h = c.requires.0 in let l = c.loop-q.invariant in going_word _ _ _ _ _ _ _ _ h _ c.word-stop.ensures.0 _ _ _ _ _ _ _ _ _ _ (l.0 h c.word-stop.ensures.0) c.loop-q-test.true

pub lowers-loop-q-smaller : goal.lowers-loop-q-smaller
lowers-loop-q-smaller t c = let h = c.requires.0 in let l = c.loop-q.invariant in let a = going_ahead _ _ _ _ _ _ _ _ h _ c.word-stop.ensures.0 _ _ _ _ _ _ _ _ _ _ (l.0 h c.word-stop.ensures.0) c.loop-q-test.true c.word-q.ensures.0 in omega (arith, a.0, a.1)

pub lowers-loop-q-preserved : goal.lowers-loop-q-preserved
lowers-loop-q-preserved t c = let l = c.loop-q.invariant in (λ h e. going_on _ _ _ _ _ _ _ _ h _ e _ _ _ _ _ _ _ _ _ _ (l.0 h e) c.loop-q-test.true _ _ _ _ c.refill-left.ensures.0 c.marked-m.ensures _ _ _ c.pair.ensures _ c.in_ok-y.was c.word-q.ensures.0 _ (lent_agree _ _ _ (omega (arith, c.refill-left.ensures.0.low, c.refill-left.ensures.1, l.3, l.6))), search rules, search rules, search rules, c.refill-left.ensures.0.low, omega (arith, c.refill-left.ensures.0.some), l.6)

pub lowers-returns : goal.lowers-returns
lowers-returns t c = let l = c.loop-q.invariant in λ h. going_end _ _ _ _ _ _ _ _ h _ c.word-stop.ensures.0 _ _ _ _ _ _ _ _ _ _ (l.0 h c.word-stop.ensures.0) c.loop-q-test.false

pub object-overflow_add-inner : goal.object-overflow_add-inner
object-overflow_add-inner t c = omega (arith, object_room _ _ _ _ _ _ _ _ c.requires.0)

pub object-overflow_sub-allow : goal.object-overflow_sub-allow
object-overflow_sub-allow t c = object_some _ _ _ _ _ _ _ _ c.requires.0

pub object-lowers-requires : goal.object-lowers-requires
object-lowers-requires t c = let h = c.requires.0 in let o = object_some _ _ _ _ _ _ _ _ h in (omega (arith, c.decreases), (object_lowers _ _ _ _ _ _ _ _ h _ refl refl, omega (arith, c.requires.1), omega (arith, object_room _ _ _ _ _ _ _ _ h), c.requires.3))

pub object-overflow_sub-allow-2 : goal.object-overflow_sub-allow-2
object-overflow_sub-allow-2 t c = object_some _ _ _ _ _ _ _ _ c.requires.0

pub object-news-g-requires : goal.object-news-g-requires
object-news-g-requires t c = let h = c.requires.0 in let o = object_some _ _ _ _ _ _ _ _ h in (object_news _ _ _ _ _ _ _ _ h _ refl refl c.lowers.ensures _ c.in_ok-next.was, omega (arith, c.lowers.auto.marks, c.requires.1), omega (arith, object_room _ _ _ _ _ _ _ _ h), omega (arith, c.lowers.auto.marks, c.requires.3))

pub object-word-requires : goal.object-word-requires
object-word-requires t c = object_word _ _ _ _ _ _ _ _ c.requires.0

pub object-overflow_add-word : goal.object-overflow_add-word
object-overflow_add-word t c = omega (arith, object_count _ _ _ _ _ _ _ _ c.requires.0 _ refl refl c.lowers.ensures _ c.in_ok-next.was _ c.news-g.ensures _ c.word.ensures.0)

pub object-close-requires : goal.object-close-requires
object-close-requires t c = let h = c.requires.0 in (omega (arith, object_room _ _ _ _ _ _ _ _ h), object_count _ _ _ _ _ _ _ _ h _ refl refl c.lowers.ensures _ c.in_ok-next.was _ c.news-g.ensures _ c.word.ensures.0, c.requires.2, object_next _ _ _ _ _ _ _ _ h _ refl refl c.lowers.ensures _ c.in_ok-next.was _ c.news-g.ensures _ c.word.ensures.0)

pub object-returns-in_err-next : goal.object-returns-in_err-next
object-returns-in_err-next t c = let p = err_from_is_err_and c.from_residual.result c.from_residual.ensures.1 in λ h. rw p.1 (object_clash _ _ _ _ _ _ _ _ h _ refl refl c.lowers.ensures c.in_err-next.was)

pub object-returns : goal.object-returns
object-returns t c = λ h. object_done _ _ _ _ _ _ _ _ h _ refl refl c.lowers.ensures _ c.in_ok-next.was _ c.news-g.ensures _ c.word.ensures.0 c.close.ensures

pub pair-kept-y-requires : goal.pair-kept-y-requires
pair-kept-y-requires t c = (pair_key _ _ _ _ _ _ _ _ c.requires.0, c.requires.2)

pub pair-overflow_add-q : goal.pair-overflow_add-q
pair-overflow_add-q t c = omega (arith, pair_next _ _ _ _ _ _ _ _ c.requires.0)

pub pair-kept-requires : goal.pair-kept-requires
pair-kept-requires t c = (pair_alone _ _ _ _ _ _ _ _ c.requires.0 c.kept-y.ensures c.in-None.is, c.requires.2)

pub pair-returns-in-None : goal.pair-returns-in-None
pair-returns-in-None t c = λ h. pair_kept _ _ _ _ _ _ _ _ h c.kept-y.ensures c.in-None.is c.kept.ensures

pub pair-overflow_add-key : goal.pair-overflow_add-key
pair-overflow_add-key t c = omega (arith, pair_there _ _ _ _ _ _ _ _ c.requires.0 c.in-Some.is)

pub pair-lay-requires : goal.pair-lay-requires
pair-lay-requires t c = (omega (arith, c.decreases), (pair_two _ _ _ _ _ _ _ _ c.requires.0 c.kept-y.ensures c.in-Some.is, c.requires.1, c.requires.2, c.requires.3))

pub pair-returns-in-Some : goal.pair-returns-in-Some
pair-returns-in-Some t c = λ h. pair_laid _ _ _ _ _ _ _ _ h c.kept-y.ensures c.in-Some.is c.lay.ensures
