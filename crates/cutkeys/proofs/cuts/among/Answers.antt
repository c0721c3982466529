-- `among` seeks the text of the key among the others.
use Rattle.cutkeys.specs.CutsSought.{among_content, among_asks, among_told, amongs}
use native.Mathlib.Omega.{arith}
use Rattle.cutkeys.proofs.cuts.among.Goals as goal

pub invariant_of-text : goal.invariant_of-text
invariant_of-text c = record { content = among_content _ _ _ _ _ c.requires.1 _ c.deeper-s.ensures _ c.size_of.ensures }

pub sought-requires : goal.sought-requires
sought-requires c =
    among_asks _ _ _ _ _ c.requires.1 _ c.deeper-s.ensures _ c.size_of.ensures _ (omega arith) (omega arith) c.requires.0 _ c.last_bytes-room.ensures

pub returns : goal.returns
returns c = among_told _ _ _ _ _ c.requires.1 _ c.deeper-s.ensures _ c.size_of.ensures _ c.sought.ensures

pub deeper-s-requires : goal.deeper-s-requires
deeper-s-requires c = search amongs
