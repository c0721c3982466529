-- `text_end` goes back over the rows to the last that has a text.
use native.Mathlib.Omega.{arith}
use Rattle.fields.specs.Ends.{end_here, end_turn, end_none}
use Rattle.fields.proofs.text_end.Goals as goal

pub returns-then-has_text : goal.returns-then-has_text
returns-then-has_text c = end_here _ _ c.loop-r.r _ _ c.loop-r.invariant (omega arith) c.has_text.ensures c.if-has_text.true c.word.ensures

pub loop-r-preserved : goal.loop-r-preserved
loop-r-preserved c = end_turn _ _ c.loop-r.r _ c.loop-r.invariant (omega arith) c.has_text.ensures c.if-has_text.false

pub returns : goal.returns
returns c = end_none _ _ c.loop-r.r c.loop-r.invariant (omega arith)
