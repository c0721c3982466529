-- `find` refuses a bad row and another kind, and walks an object from the row behind it.
use Rattle.std.proofs.Common.{rules, sym, ap, ◌∙◌, eqb}
use Rattle.language.specs.Kind.{OBJECT}
use Rattle.questions.proofs.RowLaws.{good_held, good_fits}
use Rattle.questions.proofs.WalkLaws.{find_row, find_kind, find_walk}
use Rattle.questions.proofs.finding.find.Goals as goal
use Rattle.questions.proofs.finding.find.Goals.{else-good-via-then-good+else-eq, else-good-via-else-good}

pub kind_of-requires : goal.kind_of-requires
kind_of-requires c = search (rules, good_held)

pub word-requires : goal.word-requires
word-requires c = search (rules, good_held)

pub overflow_add-r : goal.overflow_add-r
overflow_add-r c = good_fits _ _ _ _ c.good.ensures c.if-good.true c.ranges.rows

pub returns-then-eq : goal.returns-then-eq
returns-then-eq c =
    find_walk _ _ _ _ _ (sym c.good.ensures ∙ c.if-good.true) (ap (λ k. eqb k OBJECT) (sym c.kind_of.ensures) ∙ (sym c.eq.ensures ∙ c.if-eq.true))
    _ c.word.ensures _ c.walk.ensures

pub returns-else-good : goal.returns-else-good
returns-else-good c =
    elim c.else-good.branch [
      | else-good-via-then-good+else-eq w ↦
          find_kind _ _ _ _ _ (sym c.good.ensures ∙ w.if-good.true) (ap (λ k. eqb k OBJECT) (sym w.kind_of.ensures) ∙ (sym w.eq.ensures ∙ w.if-eq.false))
      | else-good-via-else-good w ↦ find_row _ _ _ _ _ (sym c.good.ensures ∙ w.if-good.false)
    ]
