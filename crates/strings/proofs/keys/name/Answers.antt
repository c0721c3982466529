-- `name` meets its contract: a bare key, or a quoted one.
use Rattle.strings.proofs.KeyLaws.{names}
use Rattle.strings.proofs.keys.name.Goals as goal

pub look-requires : goal.look-requires
look-requires c = search names

pub is_key-requires : goal.is_key-requires
is_key-requires c = search names

pub bare-requires : goal.bare-requires
bare-requires c = search names

pub shape_of-text-then-is_key : goal.shape_of-text-then-is_key
shape_of-text-then-is_key c = search names

pub returns-then-is_key : goal.returns-then-is_key
returns-then-is_key c = search names

pub quoted-requires : goal.quoted-requires
quoted-requires c = search names

pub anew-requires : goal.anew-requires
anew-requires c = search names

pub shape_of-text : goal.shape_of-text
shape_of-text c = search names

pub returns : goal.returns
returns c = rw c.anew.ensures (search names)
