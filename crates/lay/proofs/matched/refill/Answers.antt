-- `refill` hands on the marks that are left, or makes new ones.
use Rattle.lay.specs.Matching.{refill_kept, refill_new}
use mathlib.Core.Path.{refl}
use Rattle.lay.proofs.matched.refill.Goals as goal

pub returns-then-left : goal.returns-then-left
returns-then-left c = (refill_kept c.if-left.true c.requires.2, refl)

pub matches-requires : goal.matches-requires
matches-requires c = (c.requires.0.match, c.requires.3, c.requires.4)

pub returns : goal.returns
returns c = (refill_new c.requires.1 c.matches.ensures, c.matches.auto.marks)
