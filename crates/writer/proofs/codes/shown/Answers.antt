-- `shown` writes a character short, as itself or by its number.
use Rattle.std.proofs.Common.{subst}
use Rattle.writer.specs.Codes.{Lettered, shown_short, shown_self, shown_number, short_room, self_room, number_room}
use Rattle.writer.proofs.codes.shown.Goals as goal

pub put_two-requires : goal.put_two-requires
put_two-requires c = short_room _ _ c.requires.room (subst (Lettered c.args.v) c.in-Some.is c.letter.ensures)

pub returns-in-Some : goal.returns-in-Some
returns-in-Some c = shown_short _ (subst (Lettered c.args.v) c.in-Some.is c.letter.ensures) c.put_two.ensures

pub all-requires : goal.all-requires
all-requires c =
    self_room _ _ c.requires.room (subst (Lettered c.args.v) c.in_default.is c.letter.ensures) c.allowed.ensures c.if-allowed.true c.requires.bytes

pub returns-then-allowed : goal.returns-then-allowed
returns-then-allowed c =
    shown_self _ (subst (Lettered c.args.v) c.in_default.is c.letter.ensures) c.allowed.ensures c.if-allowed.true c.requires.bytes c.all.ensures

pub numbered-requires : goal.numbered-requires
numbered-requires c = number_room _ _ c.requires.room (subst (Lettered c.args.v) c.in_default.is c.letter.ensures) c.allowed.ensures c.if-allowed.false

pub returns : goal.returns
returns c = shown_number _ (subst (Lettered c.args.v) c.in_default.is c.letter.ensures) c.allowed.ensures c.if-allowed.false c.numbered.ensures
