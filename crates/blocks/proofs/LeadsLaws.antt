-- LEADS of nested content and of items, and an item by them. Assumes nothing.
use Rattle.std.specs.Prelude.{ℕ, suc}
use Rattle.language.specs.Tree.{Tree}
use Rattle.exact.specs.Out.{Reader}
use Rattle.exact.specs.Lang.{Lang, Exact}
use Rattle.exact.specs.More.{tame_any}
use Rattle.blocktext.specs.Follow.{lines}
use Rattle.blocks.specs.ValueLine.{comment_end_r, comment_ending}
use Rattle.blocks.specs.Property.{object_r}
use Rattle.blocks.proofs.PropertyLaws.{object_exact, object_decided}
use Rattle.blocks.specs.Array.{array_r, array_exact, Bullet, bullet_r, bullet_exact}
use Rattle.blocks.proofs.ArrayLaws.{array_decided, bullet_decided}
use Rattle.blocks.specs.Lead.{lead_r, Leads}
use Rattle.blocks.proofs.LeadLaws.{lead_exact}
use Rattle.blocks.specs.Openers.{opener_r, nested_line_r}
use Rattle.blocks.proofs.OpenersLaws.{opener_exact, opener_beside, nested_line_beside}
use Rattle.notation.specs.Lang.{Alt}
use Rattle.language.specs.Blocks.{ValueLine, Object, Open}

-- what begins nested content and an item, where the nested content and the item in them are exact
module _ (k n : ℕ) {N I : Lang Tree} {nR iR : Reader Tree} (en : Exact 1 N (lines (suc (suc n))) nR) (ei : Exact 1 I (lines (suc (suc n))) iR) where
  pub nested_leads : Leads (nested_line_r n) (nested_line_r n) (array_r n iR) (object_r k n nR)
  nested_leads =
      record {
        line = nested_line_beside n;
        array = array_decided n ei;
        object = object_decided k n en;
        tame_array = tame_any (array_exact n ei).moves;
        tame_object = tame_any (object_exact k n en).moves;
      }

  pub item_leads : Leads (opener_r comment_end_r 0 n) (opener_r comment_end_r (suc k) n) (bullet_r iR) (object_r k n nR)
  item_leads =
      record {
        line = opener_beside comment_ending (suc k) n;
        array = bullet_decided n ei;
        object = object_decided k n en;
        tame_array = tame_any (bullet_exact n ei).moves;
        tame_object = tame_any (object_exact k n en).moves;
      }

  -- an item's reader is exact where those of what stands in it are
  pub item_by : Exact 1 (Alt (Alt (ValueLine (suc k)) (Open n)) (Alt (Bullet I) (Object k n N))) (lines n) (lead_r (opener_r comment_end_r (suc k) n) (bullet_r iR) (object_r k n nR))
  item_by = lead_exact item_leads (opener_exact comment_ending (suc k) n) (bullet_exact n ei) (object_exact k n en)
