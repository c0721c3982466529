-- `named` tests the text of a key that is cut.
use Rattle.std.proofs.Common.{refl}
use Rattle.cutvalues.proofs.CutLaws.{place_small, content_asked, content_key, content_no_key}
use Rattle.cutvalues.proofs.named.Goals as goal

pub deeper-s-requires : goal.deeper-s-requires
deeper-s-requires c = (c.requires.0, place_small c.args.v.content c.args.at c.requires.1)

pub invariant_of-text : goal.invariant_of-text
invariant_of-text c = record { content = content_asked _ _ _ _ _ _ _ _ c.requires.2 _ c.deeper-s.ensures c.requires.0 c.args.v.content }

pub returns-then-is_script : goal.returns-then-is_script
returns-then-is_script c = content_key _ _ _ _ _ _ _ _ c.requires.2 _ c.deeper-s.ensures _ c.is_script.ensures c.if-is_script.true refl

pub returns : goal.returns
returns c = content_no_key _ _ _ _ _ _ _ _ c.requires.2 _ c.deeper-s.ensures _ c.is_script.ensures c.if-is_script.false
