-- `text_number` is 0 where the row can be read, and BADROW elsewhere.
use Rattle.std.proofs.Common.{sym, ap, ◌∙◌}
use Rattle.language.specs.Kind.{pick}
use Rattle.questions.proofs.RowLaws.{number_told}
use Rattle.questions.proofs.reading.text_number.Goals as goal

pub returns-then-is_some : goal.returns-then-is_some
returns-then-is_some c =
    ap (λ b. pick b 0 9) (sym c.if-is_some.true ∙ c.is_some.ensures) ∙ number_told _ _ _ _ c.text_in.result c.text_in.ensures

pub returns-else-is_some : goal.returns-else-is_some
returns-else-is_some c =
    ap (λ b. pick b 0 9) (sym c.if-is_some.false ∙ c.is_some.ensures) ∙ number_told _ _ _ _ c.text_in.result c.text_in.ensures
