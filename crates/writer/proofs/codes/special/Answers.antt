-- `special` writes such a character short or by its number.
use Rattle.std.proofs.Common.{subst}
use Rattle.writer.specs.Codes.{Lettered, shown_short, short_room, special_number, special_room}
use Rattle.writer.proofs.codes.special.Goals as goal

pub put_two-requires : goal.put_two-requires
put_two-requires c = short_room _ _ c.requires.1 (subst (Lettered c.args.b) c.in-Some.is c.letter.ensures)

pub returns-in-Some : goal.returns-in-Some
returns-in-Some c = shown_short _ (subst (Lettered c.args.b) c.in-Some.is c.letter.ensures) c.put_two.ensures

pub numbered-requires : goal.numbered-requires
numbered-requires c = special_room _ _ c.requires.1 c.requires.0 (subst (Lettered c.args.b) c.in_default.is c.letter.ensures)

pub returns : goal.returns
returns c = special_number _ c.requires.0 (subst (Lettered c.args.b) c.in_default.is c.letter.ensures) c.numbered.ensures
