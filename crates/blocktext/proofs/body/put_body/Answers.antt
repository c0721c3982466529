-- `put_body` meets its contract: with the lines that are left the text would be the body's.
use native.Mathlib.Omega.{arith}
use mathlib.Core.Path.{refl, ◌∙◌}
use Rattle.blocktext.proofs.PutLaws.{put_first, put_lined, put_on, put_further, put_past, put_word, put_stored, putting}
use Rattle.blocktext.proofs.body.put_body.Goals as goal

pub spot-from-requires : goal.spot-from-requires
spot-from-requires c = search putting

pub overflow_add-n : goal.overflow_add-n
overflow_add-n c = search putting

pub loop-n-init : goal.loop-n-init
loop-n-init c = (put_first _ _ _ _ _ _ _ _ c.requires c.spot-from.ensures, refl)

pub put_line-n-requires : goal.put_line-n-requires
put_line-n-requires c = put_lined _ _ _ _ _ _ _ _ c.loop-n.invariant.0 c.loop-n-test.true

pub loop-n-smaller : goal.loop-n-smaller
loop-n-smaller c = omega (arith, put_further _ _ _ _ _ _ _ _ c.loop-n.invariant.0 c.loop-n-test.true _ _ c.put_line-n.ensures)

pub loop-n-preserved : goal.loop-n-preserved
loop-n-preserved c = (put_on _ _ _ _ _ _ _ _ c.loop-n.invariant.0 c.loop-n-test.true _ _ c.put_line-n.ensures, c.put_line-n.auto.text ∙ c.loop-n.invariant.1)

pub overflow_sub-result : goal.overflow_sub-result
overflow_sub-result c = put_past _ _ _ _ _ _ _ _ _ _ c.spot-from.ensures c.loop-n.invariant.0 c.loop-n-test.false

pub overflow_add-result : goal.overflow_add-result
overflow_add-result c = omega (arith, put_word _ _ _ _ _ _ _ _ _ _ c.spot-from.ensures c.loop-n.invariant.0 c.requires)

pub shape_of-text : goal.shape_of-text
shape_of-text c = search putting

pub returns : goal.returns
returns c = put_stored _ _ _ _ _ _ _ _ _ _ c.spot-from.ensures c.loop-n.invariant.0 c.loop-n-test.false
