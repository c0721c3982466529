-- THE ROOT: its reader, that it is exact, and more allowance.
use Rattle.std.specs.Prelude.{refl, ◌++◌, ℕ, zero, suc, ◌<◌}
use Rattle.std.proofs.Common.{arith}
use Rattle.language.specs.Tree.{Tree}
use Rattle.language.specs.Blocks.{Open, Nested, Item}
use Rattle.language.specs.Document.{Root}
use Rattle.exact.specs.Class.{Class, only}
use Rattle.exact.specs.Out.{Reader}
use Rattle.exact.specs.Lang.{Exact}
use Rattle.exact.specs.Grow.{Sub, sub_refl, sub_one, alt_sub}
use Rattle.exact.specs.More.{OneMore, tame_any}
use Rattle.strings.specs.Keys.{key_s}
use Rattle.inline.specs.Lists.{value_first}
use Rattle.blocktext.specs.Follow.{lines}
use Rattle.blocks.specs.First.{Opens, alt_opens, opens_inside}
use Rattle.blocks.specs.ValueLine.{FeedEnd, feed_end_r, feed_ending, line_sub}
use Rattle.blocks.specs.Property.{object_r, object_opens, object_sub}
use Rattle.blocks.proofs.PropertyLaws.{object_exact, object_decided, object_more}
use Rattle.blocks.specs.Array.{array_r, array_exact, array_opens, array_more, array_sub}
use Rattle.blocks.proofs.ArrayLaws.{array_decided}
use Rattle.blocks.specs.Lead.{lead_r, Leads}
use Rattle.blocks.proofs.LeadLaws.{lead_exact, lead_more, lead_new}
use Rattle.blocks.specs.Openers.{opener_r, opener_opens}
use Rattle.blocks.proofs.OpenersLaws.{opener_exact, opener_more, opener_beside}
use Rattle.blocks.specs.Nested.{nested_r, item_r}
use Rattle.blocks.proofs.NestedLaws.{nested_exact, item_exact}
use Rattle.blocks.specs.Deeper.{nested_sub, item_sub}
use Rattle.blocks.proofs.DeeperLaws.{nested_more, item_more}
use Rattle.blocks.specs.Root.{root_first, root_r}

pub root_lead : (k : ℕ) → Leads (opener_r feed_end_r 0 0) (opener_r feed_end_r (suc k) 0) (array_r 0 (item_r k 2)) (object_r k 0 (nested_r k 2))
root_lead k =
    record {
      line = opener_beside feed_ending (suc k) 0;
      array = array_decided 0 (item_exact k 2);
      object = object_decided k 0 (nested_exact k 2);
      tame_array = tame_any (array_exact 0 (item_exact k 2)).moves;
      tame_object = tame_any (object_exact k 0 (nested_exact k 2)).moves;
    }

pub root_exact : (k : ℕ) → Exact 1 (Root k) (lines 0) (root_r k)
unfolding root_r
root_exact zero = opener_exact feed_ending zero 0
root_exact (suc k) = lead_exact (root_lead k) (opener_exact feed_ending (suc k) 0) (array_exact 0 (item_exact k 2)) (object_exact k 0 (nested_exact k 2))

pub root_opens : (k : ℕ) → Opens root_first (Root k)
root_opens zero = opens_inside root_first refl (opener_opens feed_ending zero 0)
root_opens (suc k) = alt_opens (opener_opens feed_ending (suc k) 0) (alt_opens (array_opens 0 (Item k 2)) (object_opens k 0 (Nested k 2)))

pub root_more : (k j : ℕ) → k < j → OneMore (root_r k) (root_r (suc k)) (root_r j)
unfolding root_r
root_more k zero l = absurd (omega arith)
root_more zero (suc j) l = lead_new (root_lead 0) (root_lead j) (opener_more feed_ending 0 (suc j) 0 l)
root_more (suc k) (suc j) l =
    lead_more
    (root_lead k)
    (root_lead (suc k))
    (root_lead j)
    (opener_more feed_ending (suc k) (suc j) 0 l)
    (array_more 0 (item_more k j 2 (omega arith)))
    (object_more k j 0 (omega arith) (nested_more k j 2 (omega arith)))
