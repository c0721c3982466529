-- `same_bytes` compares runs of both contents. The loop's invariant: the first i bytes are the same.
use Rattle.cutkeys.specs.CutsSame.{alike_none, alike_over, alike_few, alike_few_two, alike_part, alike_part_two, alike_more, alike_not}
use native.Mathlib.Omega.{arith}
use borrow.Author.Rules.{rules}
use Rattle.cutkeys.proofs.cuts.same_bytes.Goals as goal

pub loop-i-init : goal.loop-i-init
loop-i-init c = alike_none _ _ _ _ _ _ _ c.args.a.content _ c.args.b.content c.requires

pub overflow_add-p : goal.overflow_add-p
overflow_add-p c = alike_few _ _ _ _ _ _ _ _ c.loop-i.invariant c.loop-i-test.true _ _ _ _ c.run-r.ensures c.run-s.ensures

pub overflow_add-q : goal.overflow_add-q
overflow_add-q c = alike_few_two _ _ _ _ _ _ _ _ c.loop-i.invariant c.loop-i-test.true _ _ _ _ c.run-r.ensures c.run-s.ensures

pub same_text-requires : goal.same_text-requires
same_text-requires c = (alike_part _ _ _ _ _ _ _ _ c.loop-i.invariant c.loop-i-test.true _ _ _ _ c.run-r.ensures c.run-s.ensures, alike_part_two _ _ _ _ _ _ _ _ c.loop-i.invariant c.loop-i-test.true _ _ _ _ c.run-r.ensures c.run-s.ensures)

pub loop-i-preserved : goal.loop-i-preserved
loop-i-preserved c = alike_more _ _ _ _ _ _ _ _ c.loop-i.invariant c.loop-i-test.true _ _ _ _ c.run-r.ensures c.run-s.ensures _ c.same_text.ensures (search rules)

pub returns-then-not-same_text : goal.returns-then-not-same_text
returns-then-not-same_text c = alike_not _ _ _ _ _ _ _ _ c.loop-i.invariant c.loop-i-test.true _ _ _ _ c.run-r.ensures c.run-s.ensures _ c.same_text.ensures (search rules) _ c.requires

pub returns : goal.returns
returns c = alike_over _ _ _ _ _ _ _ _ c.loop-i.invariant (omega arith) _ c.requires
