-- `key_at` gives a readable key with a good row behind it.
use Rattle.std.proofs.Common.{sym, ap, ◌∙◌, eqb, arith}
use Rattle.language.specs.Kind.{KEY}
use Rattle.questions.proofs.RowLaws.{read_held, read_fits, some_text, none_text, no_name, other_kind, bad_value, good_value}
use Rattle.questions.proofs.finding.key_at.Goals as goal
use Rattle.questions.proofs.finding.key_at.Goals.{else-eq-via-then-eq+else-good, else-eq-via-else-eq}

pub returns-in_err-name : goal.returns-in_err-name
returns-in_err-name c = no_name _ _ _ _ _ c.from_residual.ensures.0 (none_text _ _ _ _ c.text_in.ensures c.in_err-name.ensures.ok_part)

pub kind_of-requires : goal.kind_of-requires
kind_of-requires c = read_held _ _ _ _ (some_text _ _ _ _ c.text_in.ensures c.in_ok-name.ensures.ok_part).read 0 (omega arith)

pub overflow_add-at : goal.overflow_add-at
overflow_add-at c = read_fits _ _ _ _ (some_text _ _ _ _ c.text_in.ensures c.in_ok-name.ensures.ok_part).read c.ranges.rows

pub returns-then-good : goal.returns-then-good
returns-then-good c =
    let t = some_text _ _ _ _ c.text_in.ensures c.in_ok-name.ensures.ok_part in
    (good_value _ _ _ _ t.read (ap (λ k. eqb k KEY) (sym c.kind_of.ensures) ∙ (sym c.eq.ensures ∙ c.if-eq.true)) (sym c.good.ensures ∙ c.if-good.true), t.is)

pub returns-else-eq : goal.returns-else-eq
returns-else-eq c =
    let t = some_text _ _ _ _ c.text_in.ensures c.in_ok-name.ensures.ok_part in
    let k = ap (λ k. eqb k KEY) (sym c.kind_of.ensures) ∙ sym c.eq.ensures in
    elim c.else-eq.branch [
      | else-eq-via-then-eq+else-good w ↦ bad_value _ _ _ _ t.read (k ∙ w.if-eq.true) (sym w.good.ensures ∙ w.if-good.false)
      | else-eq-via-else-eq w ↦ other_kind _ _ _ _ t.read (k ∙ w.if-eq.false)
    ]
