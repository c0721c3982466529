-- `fresh` gives what comes next in the document.
use Rattle.spelt.specs.Spelling.{there, fresh_piece}
use Rattle.spelt.proofs.spelling.fresh.Goals as goal

pub piece-requires : goal.piece-requires
piece-requires c =
    let s = c.before in
    let b = c.in_ok-b in (
      fresh_piece s.args.doc.now s.args.room.now s.args.s s.requires.0 s.requires.1 c.byte.result c.byte.ensures b.b b.m b.was c.is_plain.result c.if-s-eq0.false c.is_plain.ensures c.if-is_plain.false c.if-b-s.false,
      there s.args.doc.now s.args.room.now s.args.s s.requires.0 s.requires.1 c.byte.result c.byte.ensures b.b b.m b.was,
    )
