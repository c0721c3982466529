-- `answer` tells a clash, then what is needed, and fills the targets last.
use Rattle.lay.specs.Root.{answer_clash, answer_rows, answer_bytes, answer_done}
use Rattle.lay.proofs.answer.Goals as goal

pub returns-in_default : goal.returns-in_default
returns-in_default c = λ h. answer_clash _ _ _ _ h _ _ c.count.ensures c.in_default.not-Ok

pub returns-then-rows_lent-need : goal.returns-then-rows_lent-need
returns-then-rows_lent-need c = λ h. answer_rows _ _ _ _ h _ _ c.count.ensures _ c.in-Ok.is _ c.rows_lent.ensures c.if-rows_lent-need.true

pub returns-then-bytes_lent-need : goal.returns-then-bytes_lent-need
returns-then-bytes_lent-need c = λ h. answer_bytes _ _ _ _ h _ _ c.count.ensures _ c.in-Ok.is _ c.rows_lent.ensures c.if-rows_lent-need.false _ c.bytes_lent.ensures c.if-bytes_lent-need.true

pub returns : goal.returns
returns c = λ h. answer_done _ _ _ _ h _ _ c.count.ensures _ c.in-Ok.is _ c.rows_lent.ensures c.if-rows_lent-need.false _ c.bytes_lent.ensures c.if-bytes_lent-need.false c.walk.ensures
