-- `cut_scalar` tests the text of a scalar that is cut.
use Rattle.cutvalues.proofs.CutLaws.{place_small, content_asked, content_scalar, content_no_scalar}
use Rattle.cutvalues.proofs.cut_scalar.Goals as goal

pub deeper-s-requires : goal.deeper-s-requires
deeper-s-requires c = (c.requires.0, place_small c.args.v.content c.args.at c.requires.1)

pub invariant_of-text : goal.invariant_of-text
invariant_of-text c = record { content = content_asked _ _ _ _ _ _ _ _ c.requires.2 _ c.deeper-s.ensures c.requires.0 c.args.v.content }

pub returns-then-is_scalar : goal.returns-then-is_scalar
returns-then-is_scalar c = content_scalar _ _ _ _ _ _ _ _ c.requires.2 _ c.deeper-s.ensures _ c.args.allow c.is_scalar.ensures c.if-is_scalar.true

pub returns : goal.returns
returns c = content_no_scalar _ _ _ _ _ _ _ _ c.requires.2 _ c.deeper-s.ensures _ c.args.allow c.is_scalar.ensures c.requires.3 c.if-is_scalar.false
