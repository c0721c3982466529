-- `among` starts with chains that have no key in them. Assumes nothing.
use Rattle.std.proofs.Common.{refl, arith}
use Rattle.places.specs.Walks.{starting}
use Rattle.places.proofs.among.Goals as goal

pub whole_as_slice-repeated : goal.whole_as_slice-repeated
whole_as_slice-repeated g c = omega arith

pub whole_as_slice-repeated-2 : goal.whole_as_slice-repeated-2
whole_as_slice-repeated-2 g c = omega arith

pub repeated-requires : goal.repeated-requires
repeated-requires g c =
    let s = c.before.before.before.before.before in
    starting s.args.doc.now s.args.keys.now 4096 g.row.N g.row.N s.args.n refl s.requires.1 refl s.requires.0
