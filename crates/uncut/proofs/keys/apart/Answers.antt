-- `apart` tells whether the keys of an object are distinct.
use Rattle.uncut.specs.Keys.{keys_open, keys_apart}
use Rattle.std.proofs.Common.{rules}
use Rattle.uncut.proofs.keys.apart.Goals as goal

pub apart-requires : goal.apart-requires
apart-requires c = search (keys_open, rules)

pub returns : goal.returns
returns c = search (keys_apart, rules)
