-- `key` shows where the text of a key stands, and where the key behind it does.
use Rattle.std.proofs.Common.{refl}
use Rattle.uncut.specs.Keys.{Placed}
use Rattle.uncut.proofs.KeyLaws.{key_inside, key_few, key_fits, value_inside, value_few, keyed_shown}
use Rattle.uncut.proofs.keys.FieldsKeys.key.Goals as goal

pub behind-to-requires : goal.behind-to-requires
behind-to-requires c = let k : Placed c.args.text.now c.args.stop c.args.r = c.requires in (key_inside _ _ k.keyed, key_few _ _ k.keyed)

pub overflow_add-result : goal.overflow_add-result
overflow_add-result c = let k : Placed c.args.text.now c.args.stop c.args.r = c.requires in key_fits _ _ k.keyed

pub behind-requires : goal.behind-requires
behind-requires c =
    let k : Placed c.args.text.now c.args.stop c.args.r = c.requires in
    (value_inside _ _ k.keyed _ c.behind-to.ensures, value_few _ _ k.keyed _ c.behind-to.ensures)

pub returns : goal.returns
returns c = keyed_shown _ _ _ c.requires _ c.behind-to.ensures refl c.behind.ensures
