-- WHAT BEGINS AT ONE PLACE: a line, an array or an object. Read by OR: by the look for a dash or a key one of them wins. Exact; more allowance. Assumes nothing.
use Rattle.std.specs.Prelude.{ℕ}
use Rattle.language.specs.Tree.{Tree}
use Rattle.exact.specs.Out.{Reader, Tame}
use Rattle.exact.specs.Lang.{Lang, Follow, Exact}
use Rattle.exact.specs.Comb.{Alt}
use Rattle.exact.specs.More.{OneMore, Meet, meet_loses}
use Rattle.blocks.specs.Or.{or_r}
use Rattle.blocks.specs.Look.{Decided, turn, decided_meet, Beside, kind, ends, beside_meet, beside_flat}
use Rattle.blocks.specs.KeyLook.{key_look, key_stop, dash_look, dash_stop, block_look}

unfoldable pub lead_r : Reader Tree → Reader Tree → Reader Tree → Reader Tree
lead_r l d o = or_r l (or_r d o)

-- readers of a line, an array and an object that may stand at one place; `base` is the line's reader without containers
pub record Leads (base l d o : Reader Tree) : Type 0 where
  pub line : Beside block_look key_stop base l
  pub array : Decided dash_look dash_stop d
  pub object : Decided key_look key_stop o
  pub tame_array : Tame 0 d
  pub tame_object : Tame 0 o
