-- `text` gives the row's part of the room, and none of it where the row cannot be read.
use Rattle.std.proofs.Common.{refl, ap, ◌∙◌, List, ℕ}
use Rattle.std.specs.Borrow.{Bor}
use Rattle.questions.proofs.RowLaws.{text_told}
use Rattle.questions.proofs.reading.text.Goals as goal

pub returns : goal.returns
returns c = ap (λ (x : Bor (List ℕ)). x.now) c.unwrap_or.ensures ∙ text_told _ _ _ _ c.text_in.result c.text_in.ensures _ refl
