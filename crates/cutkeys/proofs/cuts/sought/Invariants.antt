-- `sought` holds the text against the keys that are not passed. The loop's invariant: another key has it exactly if one from q on has.
use Prim.Native.Nat.{◌-◌}
use Rattle.views.specs.Contents.{bytes_of}
use Rattle.cutkeys.specs.CutsSought.{Hunts}
use Rattle.cutkeys.proofs.cuts.sought.Given as goal

abbrev pub invariant-loop-q : goal.invariant-loop-q
invariant-loop-q l = Hunts l.v.stored.now l.v.starts.now l.v.d l.v.n l.p (bytes_of l.a) l.q

abbrev pub decreases-loop-q : goal.decreases-loop-q
decreases-loop-q l = l.v.n - l.q
