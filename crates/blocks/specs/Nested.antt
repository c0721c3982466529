-- NESTED CONTENT AND ITEMS, each inside the other: their readers, and that they are exact for every column and allowance.
use Rattle.std.specs.Prelude.{ℕ, zero, suc}
use Rattle.language.specs.Tree.{Tree}
use Rattle.language.specs.Blocks.{Nested, Item}
use Rattle.exact.specs.Out.{Reader}
use Rattle.exact.specs.Lang.{Lang, Exact}
use Rattle.exact.specs.Block.{indented_r, indented_exact}
use Rattle.exact.specs.More.{tame_any}
use Rattle.blocktext.specs.Follow.{lines}
use Rattle.blocks.specs.First.{alt_swap}
use Rattle.blocks.specs.ValueLine.{comment_end_r, comment_ending}
use Rattle.blocks.specs.Property.{object_r}
use Rattle.blocks.specs.Array.{array_r, array_exact, bullet_r, bullet_exact}
use Rattle.blocks.specs.Lead.{lead_r, Leads}
use Rattle.blocks.specs.Openers.{opener_r, nested_line_r, nested_line_exact}

-- nested content at m behind its first m spaces, and an item with the content column c
unfoldable mutual
  pub nested_here_r : ℕ → ℕ → Reader Tree
  nested_here_r zero m = nested_line_r m
  nested_here_r (suc k) m = lead_r (nested_line_r m) (array_r m (item_r k (suc (suc m)))) (object_r k m (indented_r (suc (suc m)) (nested_here_r k (suc (suc m)))))

  pub item_r : ℕ → ℕ → Reader Tree
  item_r zero c = opener_r comment_end_r zero c
  item_r (suc k) c = lead_r (opener_r comment_end_r (suc k) c) (bullet_r (item_r k (suc (suc c)))) (object_r k c (indented_r (suc (suc c)) (nested_here_r k (suc (suc c)))))

abbrev pub nested_r : ℕ → ℕ → Reader Tree
nested_r k m = indented_r m (nested_here_r k m)
