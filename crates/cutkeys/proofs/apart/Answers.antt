-- `apart` tells whether no two keys have one text.
use Rattle.cutkeys.specs.Apart.{telling}
use Rattle.cutkeys.proofs.apart.Goals as goal

pub returns-else-windows : goal.returns-else-windows
returns-else-windows c = let v = c.args.v.content in rw c.if-windows.false (search (v, telling))

pub windows-requires : goal.windows-requires
windows-requires c = let v = c.args.v.content in search (v, telling)

pub cut_apart-requires : goal.cut_apart-requires
cut_apart-requires c = let v = c.args.v.content in search (v, telling)

pub returns-then-windows : goal.returns-then-windows
returns-then-windows c = let v = c.args.v.content in search (v, telling)
