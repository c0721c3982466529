-- `past` passes keys whose texts differ. The loop's invariant: those before i do.
use Rattle.cutkeys.specs.CutsPast.{passing}
use Rattle.cutkeys.proofs.cuts.past.Goals as goal

pub differs-requires : goal.differs-requires
differs-requires c = search passing

pub loop-i-smaller : goal.loop-i-smaller
loop-i-smaller c = search passing
