-- `same_text` tells whether a part of one text and one of another are the same: one byte more of both is.
use Rattle.distinct.specs.Same.{same_more, same_slices}
use Rattle.distinct.proofs.same_text.Goals as goal

pub loop-i-preserved : goal.loop-i-preserved
loop-i-preserved c = same_more _ _ _ _ _ _ _ _ c.loop-i.invariant c.requires.0 c.requires.1 c.loop-i-test.true c.if-text-a.false

pub returns-then-n-gt-SHORT : goal.returns-then-n-gt-SHORT
returns-then-n-gt-SHORT c = let s = c.args in same_slices s.text.now s.a s.e s.words.now s.b s.f _ c.eq.ensures
