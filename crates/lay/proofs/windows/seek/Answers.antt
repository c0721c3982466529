-- `seek` tells which key of the window has a text, in order or in chains.
use Rattle.lay.specs.Windows.{sight_order}
use Rattle.lay.proofs.windows.seek.Goals as goal

pub returns-then-ranked : goal.returns-then-ranked
returns-then-ranked c = sight_order _ _ _ _ _ _ _ c.requires.0 _ c.if-ranked.true _ c.key_in_order.ensures _ c.ok.ensures.value
