-- `walk` goes as document 01 walks: what answers at `at` answers the whole, and each turn comes nearer to `stop`.
use Rattle.std.proofs.Common.{sym, ◌∙◌, arith}
use Rattle.questions.proofs.RowLaws.{pair_held}
use Rattle.questions.proofs.WalkLaws.{walk_ends, walk_breaks, walk_found, walk_back, walk_past, walk_goes}
use Rattle.questions.proofs.finding.walk.Goals as goal
use Rattle.questions.proofs.finding.walk.Goals.{then-next-value-via-then-next-value, then-next-value-via-else-next-value+then-stop-next}

pub returns-in_err-name : goal.returns-in_err-name
returns-in_err-name c = walk_breaks _ _ _ _ _ _ _ c.loop-at.invariant c.loop-at-test.true _ c.from_residual.ensures.0 c.in_err-name.ensures

pub returns-then-eq : goal.returns-then-eq
returns-then-eq c = walk_found _ _ _ _ _ _ _ c.loop-at.invariant c.loop-at-test.true _ c.in_ok-name.ensures (sym c.eq.ensures ∙ c.if-eq.true)

pub word-next-requires : goal.word-next-requires
word-next-requires c = pair_held _ _ _ _ c.in_ok-name.ensures.0 6 (omega arith)

pub returns-then-next-value : goal.returns-then-next-value
returns-then-next-value c =
    let d = sym c.eq.ensures ∙ c.if-eq.false in
    elim c.then-next-value.branch [
      | then-next-value-via-then-next-value w ↦
          walk_back _ _ _ _ _ _ _ c.loop-at.invariant c.loop-at-test.true _ c.in_ok-name.ensures d _ c.word-next.ensures w.if-next-value.true
      | then-next-value-via-else-next-value+then-stop-next w ↦
          walk_past _ _ _ _ _ _ _ c.loop-at.invariant c.loop-at-test.true _ c.in_ok-name.ensures d _ c.word-next.ensures w.if-next-value.false w.if-stop-next.true
    ]

pub loop-at-preserved : goal.loop-at-preserved
loop-at-preserved c =
    walk_goes _ _ _ _ _ _ _ c.loop-at.invariant c.loop-at-test.true _ c.in_ok-name.ensures (sym c.eq.ensures ∙ c.if-eq.false) _ c.word-next.ensures
    c.if-next-value.false c.if-stop-next.false

pub returns : goal.returns
returns c = walk_ends _ _ _ _ _ _ _ c.loop-at.invariant c.loop-at-test.false
