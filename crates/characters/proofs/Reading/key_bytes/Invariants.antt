-- `Reading::key_bytes` answers the place behind the bytes of a bare key. The loop's invariant: they go on up to e at least.
use Rattle.language.specs.Strings.{keybyte}
use Rattle.characters.specs.Plains.{Passing}
use Rattle.characters.proofs.Reading.key_bytes.Given as goal

abbrev pub invariant-loop-at : goal.invariant-loop-at
invariant-loop-at l = Passing keybyte l.doc l.initial.at l.at
