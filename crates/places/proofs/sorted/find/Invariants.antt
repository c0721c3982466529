-- `find` tells where a key belongs. The loop's invariant: behind the first lo, and before those from hi on.
use Rattle.std.proofs.Common.{◌-◌}
use Rattle.repeats.specs.Order.{name_of}
use Rattle.repeats.specs.Sorted.{Sought}
use Rattle.places.specs.Places.{place_keys}
use Rattle.places.proofs.sorted.find.Given as goal

abbrev pub invariant-loop-lo : goal.invariant-loop-lo
invariant-loop-lo l = Sought (name_of (place_keys l.doc l.keys)) (name_of (place_keys l.doc l.keys) l.i) l.order l.i l.lo l.hi

abbrev pub decreases-loop-lo : goal.decreases-loop-lo
decreases-loop-lo l = l.hi - l.lo
