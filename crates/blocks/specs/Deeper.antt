-- MORE ALLOWANCE for nested content and items: more words, and ONE MORE is enough.
use Rattle.std.specs.Prelude.{ℕ, zero, suc, ◌<◌}
use Rattle.std.proofs.Common.{arith}
use Rattle.language.specs.Blocks.{Open, Nested, Item}
use Rattle.exact.specs.Grow.{Sub, sub_refl, sub_one, sub_two, alt_sub, indented_sub}
use Rattle.exact.specs.More.{OneMore, steady, indented_more}
use Rattle.blocks.specs.ValueLine.{CommentEnd, comment_end_r, comment_ending, line_sub}
use Rattle.blocks.specs.Property.{object_r, object_sub}
use Rattle.blocks.specs.Array.{array_r, array_more, array_sub, bullet_r, bullet_more, bullet_sub}
use Rattle.blocks.specs.Lead.{Leads}
use Rattle.blocks.specs.Openers.{opener_r, nested_line_r, nested_line_exact}
use Rattle.blocks.specs.Nested.{nested_here_r, nested_r, item_r}

mutual
  pub nested_sub : (k m : ℕ) → Sub (Nested k m) (Nested (suc k) m)
  nested_sub zero m = indented_sub m (sub_two _ (sub_refl _))
  nested_sub (suc k) m =
      indented_sub
      m
      (alt_sub (alt_sub (array_sub m (item_sub k (suc (suc m)))) (object_sub k m (nested_sub k (suc (suc m))))) (sub_refl _))

  pub item_sub : (k c : ℕ) → Sub (Item k c) (Item (suc k) c)
  item_sub zero c = sub_one _ (alt_sub (line_sub CommentEnd 0) (sub_refl (Open c)))
  item_sub (suc k) c =
      alt_sub
      (alt_sub (line_sub CommentEnd (suc k)) (sub_refl (Open c)))
      (alt_sub (bullet_sub (item_sub k (suc (suc c)))) (object_sub k c (nested_sub k (suc (suc c)))))
