-- `common` passes the bytes that two texts have in common. The loop's invariant: the same bytes are passed in both.
use Rattle.spelt.specs.Standing.{passing}
use Rattle.places.proofs.names.common.Goals as goal

pub standing-v-requires : goal.standing-v-requires
standing-v-requires c = search passing

pub standing-w-requires : goal.standing-w-requires
standing-w-requires c = search passing

pub loop-s-preserved : goal.loop-s-preserved
loop-s-preserved c = search passing
