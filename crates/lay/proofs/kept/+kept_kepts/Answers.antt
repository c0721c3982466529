-- The cycle of a row and those below it meets its contracts: the rows below become fewer, and in the loop those that are left.
use Rattle.lay.specs.Keeping.{head_next_word, head_ahead, head_row_lem, kept_inner, kept_all, left_start, left_end, turn_word, turn_ahead, turn_keep, turn_again}
use mathlib.Core.Path.{refl}
use native.Mathlib.Omega.{arith}
use borrow.Author.Rules.{rules}
use Rattle.lay.proofs.kept.+kept_kepts.Goals as goal

pub kept-word-next-requires : goal.kept-word-next-requires
kept-word-next-requires t c = head_next_word _ _ _ _ c.requires.0

pub kept-overflow_add-r : goal.kept-overflow_add-r
kept-overflow_add-r t c = omega (arith, head_next_word _ _ _ _ c.requires.0)

pub kept-overflow_add-row : goal.kept-overflow_add-row
kept-overflow_add-row t c = omega (arith, head_row_lem _ _ _ _ c.requires.0)

pub kept-kepts-requires : goal.kept-kepts-requires
kept-kepts-requires t c = let h = c.requires.0 in (omega (arith, c.decreases, head_ahead _ _ _ _ h c.word-next.ensures.0, c.word-next.ensures.0), (kept_inner _ _ _ _ h _ _ (c.head-text.ensures.0 h) _ c.word-next.ensures.0 _ refl refl, omega (arith, head_row_lem _ _ _ _ h)))

pub kept-returns : goal.kept-returns
kept-returns t c = λ h. kept_all _ _ _ _ h _ _ (c.head-text.ensures.0 h) _ c.word-next.ensures.0 _ refl refl c.kepts.ensures

pub kepts-loop-r-init : goal.kepts-loop-r-init
kepts-loop-r-init t c = (λ h. left_start _ _ h, refl, refl, omega arith)

pub kepts-kept-y-requires : goal.kepts-kept-y-requires
kepts-kept-y-requires t c = let h = c.requires.0 in let l = c.loop-r.invariant in let a = turn_ahead _ _ (l.0 h) c.loop-r-test.true refl in (omega (arith, c.decreases, a.0, a.1, l.3), (turn_keep _ _ (l.0 h) c.loop-r-test.true h.rows_fit h.text_fit, c.requires.1))

pub kepts-word-r-requires : goal.kepts-word-r-requires
kepts-word-r-requires t c = let h = c.requires.0 in turn_word _ _ (c.loop-r.invariant.0 h) c.loop-r-test.true 6 (omega arith)

pub kepts-loop-r-smaller : goal.kepts-loop-r-smaller
kepts-loop-r-smaller t c = let h = c.requires.0 in let a = turn_ahead _ _ (c.loop-r.invariant.0 h) c.loop-r-test.true c.word-r.ensures.0 in omega (arith, a.0, a.1)

pub kepts-loop-r-preserved : goal.kepts-loop-r-preserved
kepts-loop-r-preserved t c = let h = c.requires.0 in let l = c.loop-r.invariant in let a = turn_ahead _ _ (l.0 h) c.loop-r-test.true c.word-r.ensures.0 in (λ h. turn_again _ _ (l.0 h) c.loop-r-test.true h.rows_fit h.text_fit c.word-r.ensures.0 c.kept-y.ensures, search rules, search rules, omega (arith, a.0, l.3))

pub kepts-returns : goal.kepts-returns
kepts-returns t c = λ h. left_end _ _ (c.loop-r.invariant.0 h) c.loop-r-test.false
