-- `same_key` compares the length, then the text, which is a content.
use Rattle.cutkeys.specs.CutsSame.{own_content, own_other, own_same, owning}
use Rattle.cutkeys.proofs.cuts.same_key.Goals as goal

pub returns-then-k-a : goal.returns-then-k-a
returns-then-k-a c = own_other _ _ _ _ _ c.requires _ c.size_of-k.ensures _ _ _ _ c.args.a.content c.if-k-a.true

pub invariant_of-text : goal.invariant_of-text
invariant_of-text c = record { content = own_content _ _ _ _ _ c.requires _ c.size_of-k.ensures _ c.deeper-s.ensures }

pub returns : goal.returns
returns c = own_same _ _ _ _ _ c.requires _ c.size_of-k.ensures _ c.deeper-s.ensures _ _ c.same_bytes.ensures

pub deeper-s-requires : goal.deeper-s-requires
deeper-s-requires c = search owning
