-- HOW CODE READS WHAT BEGINS AT ONE PLACE: a dash and a space make an array, a key and a colon an object; else the line's answer, refused no earlier than the key's end.
use Rattle.std.specs.Prelude.{◌≡◌, List, Bool, ℕ, suc, ◌≤◌}
use Rattle.std.proofs.Math.Path.{refl}
use Rattle.std.proofs.Common.{ap, ◌∙◌, arith}
use Rattle.std.proofs.Math.Bool.{true, false}
use Rattle.language.specs.Tree.{Tree}
use Rattle.exact.specs.Class.{clash, or_left, or_right}
use Rattle.exact.specs.Out.{Out, Reader, reach, ok, soft, bad}
use Rattle.strings.specs.Keys.{key_r}
use Rattle.blocks.specs.Or.{merge, or_r}
use Rattle.blocks.specs.Look.{refused, past, Place, aside, same}
use Rattle.blocks.specs.KeyLook.{keyed, key_stop, dashed, dash_stop, block_look}
use Rattle.blocks.specs.ValueLine.{comment_end_r, feed_end_r}
use Rattle.blocks.specs.Property.{object_r}
use Rattle.blocks.specs.Array.{array_r, bullet_r}
use Rattle.blocks.specs.Lead.{lead_r, Leads}
use Rattle.blocks.specs.Openers.{opener_r, nested_line_r}
use Rattle.blocks.specs.Nested.{nested_here_r, nested_r, item_r}
use Rattle.blocks.specs.Root.{root_r}

pub merge_right : {X : Type 0} (o : Out X) (q : ℕ) → q ≤ reach o → merge o (bad q) ≡ o
merge_right (ok v a t) q l = refl
merge_right (soft p v a t) q l = refl
merge_right (bad p) q l = ap bad (omega arith)

module _ {base l d o : Reader Tree} (h : Leads base l d o) (at : ℕ) (s : List ℕ) where
  -- where one of the two looks says yes, the line is refused no later than the key's end
  pub line_lost : block_look at s ≡ true → (p : ℕ) × (l at s ≡ bad p) × (p ≤ key_stop at s)
  line_lost y = go (h.line.place at s)
    where
      go : Place (block_look at s) (key_stop at s) at s (base at s) (l at s) → (p : ℕ) × (l at s ≡ bad p) × (p ≤ key_stop at s)
      go (aside f z) = absurd (clash y f)
      go (same z f (refused p g k)) = (p, f ∙ g, k)
      go (same z f (past g k)) = absurd (clash y g)
