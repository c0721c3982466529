-- What the check does not find alone of `scan`.
use Rattle.numbers.proofs.TakeLaws.{scan_laws}
use Rattle.numbers.proofs.scanning.scan.Goals as goal

pub led-requires : goal.led-requires
led-requires c = search scan_laws

pub whole-requires-clause-other : goal.whole-requires-clause-other
whole-requires-clause-other c = search scan_laws
