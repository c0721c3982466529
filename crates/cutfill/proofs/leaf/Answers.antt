-- `leaf` fills the row of a scalar or a key, and its text.
use Rattle.cutfill.proofs.FieldLaws.{leaf_content, leaf_room, leaf_filling}
use Rattle.cutfill.proofs.leaf.Goals as goal

pub row_at-requires : goal.row_at-requires
row_at-requires c = search leaf_filling

pub returns-then-f-lt4 : goal.returns-then-f-lt4
returns-then-f-lt4 c = λ h. search leaf_filling

pub overflow_add-y : goal.overflow_add-y
overflow_add-y c = search leaf_filling

pub row_at-requires-2 : goal.row_at-requires-2
row_at-requires-2 c = search leaf_filling

pub deeper-s-requires : goal.deeper-s-requires
deeper-s-requires c = search leaf_filling

pub invariant_of-content : goal.invariant_of-content
invariant_of-content c = record { content = leaf_content _ _ _ _ _ _ _ _ _ _ _ c.requires c.deeper-s.ensures }

pub text_of-requires : goal.text_of-requires
text_of-requires c = search leaf_filling

pub returns : goal.returns
returns c = λ h. search leaf_filling
