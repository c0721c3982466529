-- THE ROOT: its reader, that it is exact, and more allowance.
use Rattle.std.specs.Prelude.{refl, ◌++◌, ℕ, zero, suc, ◌<◌}
use Rattle.std.proofs.Common.{arith}
use Rattle.language.specs.Tree.{Tree}
use Rattle.language.specs.Blocks.{Open, Nested, Item}
use Rattle.language.specs.Document.{Root}
use Rattle.exact.specs.Class.{Class, only}
use Rattle.exact.specs.Out.{Reader}
use Rattle.exact.specs.Lang.{Exact}
use Rattle.exact.specs.Grow.{Sub, sub_refl, sub_one, alt_sub}
use Rattle.exact.specs.More.{OneMore, tame_any}
use Rattle.strings.specs.Keys.{key_s}
use Rattle.inline.specs.Lists.{value_first}
use Rattle.blocktext.specs.Follow.{lines}
use Rattle.blocks.specs.First.{Opens, alt_opens, opens_inside}
use Rattle.blocks.specs.ValueLine.{FeedEnd, feed_end_r, feed_ending, line_sub}
use Rattle.blocks.specs.Property.{object_r, object_opens, object_sub}
use Rattle.blocks.specs.Array.{array_r, array_exact, array_opens, array_more, array_sub}
use Rattle.blocks.specs.Lead.{lead_r, Leads}
use Rattle.blocks.specs.Openers.{opener_r, opener_opens}
use Rattle.blocks.specs.Nested.{nested_r, item_r}
use Rattle.blocks.specs.Deeper.{nested_sub, item_sub}

unfoldable pub root_r : ℕ → Reader Tree
root_r zero = opener_r feed_end_r zero 0
root_r (suc k) = lead_r (opener_r feed_end_r (suc k) 0) (array_r 0 (item_r k 2)) (object_r k 0 (nested_r k 2))

abbrev pub root_first : Class
root_first = (value_first ++ (only 96 ++ only 62)) ++ (only 45 ++ key_s.first)

pub root_sub : (k : ℕ) → Sub (Root k) (Root (suc k))
root_sub zero = sub_one _ (alt_sub (line_sub FeedEnd 0) (sub_refl (Open 0)))
root_sub (suc k) = alt_sub (alt_sub (line_sub FeedEnd (suc k)) (sub_refl (Open 0))) (alt_sub (array_sub 0 (item_sub k 2)) (object_sub k 0 (nested_sub k 2)))
