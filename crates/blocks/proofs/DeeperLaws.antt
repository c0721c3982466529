-- MORE ALLOWANCE for nested content and items: more words, and ONE MORE is enough.
use Rattle.std.specs.Prelude.{ℕ, zero, suc, ◌<◌}
use Rattle.std.proofs.Common.{arith}
use Rattle.language.specs.Blocks.{Open, Nested, Item}
use Rattle.exact.specs.Grow.{Sub, sub_refl, sub_one, sub_two, alt_sub, indented_sub}
use Rattle.exact.specs.More.{OneMore, steady, indented_more}
use Rattle.blocks.specs.ValueLine.{CommentEnd, comment_end_r, comment_ending, line_sub}
use Rattle.blocks.specs.Property.{object_r, object_sub}
use Rattle.blocks.proofs.PropertyLaws.{object_more}
use Rattle.blocks.specs.Array.{array_r, array_more, array_sub, bullet_r, bullet_more, bullet_sub}
use Rattle.blocks.specs.Lead.{Leads}
use Rattle.blocks.proofs.LeadLaws.{lead_more, lead_new}
use Rattle.blocks.specs.Openers.{opener_r, nested_line_r, nested_line_exact}
use Rattle.blocks.proofs.OpenersLaws.{opener_more}
use Rattle.blocks.specs.Nested.{nested_here_r, nested_r, item_r}
use Rattle.blocks.proofs.NestedLaws.{nested_exact, item_exact}
use Rattle.blocks.proofs.LeadsLaws.{nested_leads, item_leads}

pub nested_lead : (k m : ℕ) → Leads (nested_line_r m) (nested_line_r m) (array_r m (item_r k (suc (suc m)))) (object_r k m (nested_r k (suc (suc m))))
nested_lead k m = nested_leads k m (nested_exact k (suc (suc m))) (item_exact k (suc (suc m)))

pub item_lead : (k c : ℕ) → Leads (opener_r comment_end_r 0 c) (opener_r comment_end_r (suc k) c) (bullet_r (item_r k (suc (suc c)))) (object_r k c (nested_r k (suc (suc c))))
item_lead k c = item_leads k c (nested_exact k (suc (suc c))) (item_exact k (suc (suc c)))

mutual
  unfolding nested_here_r item_r

  pub nested_more : (k j m : ℕ) → k < j → OneMore (nested_r k m) (nested_r (suc k) m) (nested_r j m)
  nested_more k zero m l = absurd (omega arith)
  nested_more zero (suc j) m l = indented_more m (lead_new (nested_lead 0 m) (nested_lead j m) (steady (nested_line_exact m).moves))
  nested_more (suc k) (suc j) m l =
      indented_more
      m
      (lead_more
      (nested_lead k m)
      (nested_lead (suc k) m)
      (nested_lead j m)
      (steady (nested_line_exact m).moves)
      (array_more m (item_more k j (suc (suc m)) (omega arith)))
      (object_more k j m (omega arith) (nested_more k j (suc (suc m)) (omega arith))))

  pub item_more : (k j c : ℕ) → k < j → OneMore (item_r k c) (item_r (suc k) c) (item_r j c)
  item_more k zero c l = absurd (omega arith)
  item_more zero (suc j) c l = lead_new (item_lead 0 c) (item_lead j c) (opener_more comment_ending 0 (suc j) c l)
  item_more (suc k) (suc j) c l =
      lead_more
      (item_lead k c)
      (item_lead (suc k) c)
      (item_lead j c)
      (opener_more comment_ending (suc k) (suc j) c l)
      (bullet_more (item_more k j (suc (suc c)) (omega arith)))
      (object_more k j c (omega arith) (nested_more k j (suc (suc c)) (omega arith)))
