-- `parts` spreads a content into its parts, the last first.
use mathlib.Core.Path.{refl}
use native.Mathlib.Omega.{arith}
use borrow.Author.Rules.{rules}
use Rattle.fields.specs.Spread.{spread_start, spread_turn, spread_end}
use Rattle.fields.proofs.parts.Goals as goal

pub loop-k-init : goal.loop-k-init
loop-k-init c = let h = c.requires in (spread_turn h (spread_start h refl refl) (omega (arith, h.wide)) c.part_at.ensures, refl)

pub loop-k-preserved : goal.loop-k-preserved
loop-k-preserved c = (spread_turn c.requires c.loop-k.invariant.0 (omega arith) c.part_at-in-loop-k.ensures, search rules)

pub returns : goal.returns
returns c = spread_end c.requires c.loop-k.invariant.0 (omega arith) c.head.ensures
