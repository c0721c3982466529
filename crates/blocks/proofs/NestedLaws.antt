-- NESTED CONTENT AND ITEMS, each inside the other: their readers, and that they are exact for every column and allowance.
use Rattle.std.specs.Prelude.{ℕ, zero, suc}
use Rattle.language.specs.Blocks.{Nested, Item}
use Rattle.exact.specs.Lang.{Exact}
use Rattle.exact.specs.Block.{indented_exact}
use Rattle.blocktext.specs.Follow.{lines}
use Rattle.blocks.specs.First.{alt_swap}
use Rattle.blocks.specs.ValueLine.{comment_ending}
use Rattle.blocks.proofs.PropertyLaws.{object_exact}
use Rattle.blocks.specs.Array.{array_exact}
use Rattle.blocks.proofs.LeadLaws.{lead_exact}
use Rattle.blocks.specs.Openers.{nested_line_exact}
use Rattle.blocks.proofs.OpenersLaws.{opener_exact}
use Rattle.blocks.specs.Nested.{item_r, nested_here_r, nested_r}
use Rattle.blocks.proofs.LeadsLaws.{nested_leads, item_by}

mutual
  unfolding nested_here_r item_r

  pub nested_exact : (k m : ℕ) → Exact 1 (Nested k m) (lines m) (nested_r k m)
  nested_exact zero m = indented_exact m (nested_line_exact m)
  nested_exact (suc k) m =
      let en = nested_exact k (suc (suc m)) in
      let ei = item_exact k (suc (suc m)) in
      indented_exact m (alt_swap (lead_exact (nested_leads k m en ei) (nested_line_exact m) (array_exact m ei) (object_exact k m en)))

  pub item_exact : (k c : ℕ) → Exact 1 (Item k c) (lines c) (item_r k c)
  item_exact zero c = opener_exact comment_ending zero c
  item_exact (suc k) c =
      let en = nested_exact k (suc (suc c)) in
      let ei = item_exact k (suc (suc c)) in
      item_by k c en ei
