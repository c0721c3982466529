-- HOW CODE READS WHAT BEGINS AT ONE PLACE: a dash and a space make an array, a key and a colon an object; else the line's answer, refused no earlier than the key's end.
use Rattle.std.specs.Prelude.{◌≡◌, List, Bool, ℕ, suc, ◌≤◌}
use Rattle.std.proofs.Math.Path.{refl}
use Rattle.std.proofs.Common.{ap, ◌∙◌, arith}
use Rattle.std.proofs.Math.Bool.{true, false}
use Rattle.language.specs.Tree.{Tree}
use Rattle.exact.specs.Class.{clash, or_left, or_right}
use Rattle.exact.specs.Out.{Out, Reader, reach, ok, soft, bad}
use Rattle.strings.specs.Keys.{key_r}
use Rattle.blocks.specs.Or.{merge, or_r}
use Rattle.blocks.specs.Look.{refused, past, Place, aside, same}
use Rattle.blocks.specs.KeyLook.{keyed, key_stop, dashed, dash_stop, block_look}
use Rattle.blocks.proofs.KeyLookLaws.{dash_key}
use Rattle.blocks.specs.ValueLine.{comment_end_r, feed_end_r}
use Rattle.blocks.specs.Property.{object_r}
use Rattle.blocks.specs.Array.{array_r, bullet_r}
use Rattle.blocks.specs.Lead.{lead_r, Leads}
use Rattle.blocks.specs.Openers.{opener_r, nested_line_r}
use Rattle.blocks.specs.Nested.{nested_here_r, nested_r, item_r}
use Rattle.blocks.proofs.DeeperLaws.{nested_lead, item_lead}
use Rattle.blocks.specs.Root.{root_r}
use Rattle.blocks.proofs.RootLaws.{root_lead}
use Rattle.blocks.specs.Straight.{line_lost, merge_right}

merge_left : {X : Type 0} (p : ℕ) (o : Out X) → p ≤ reach o → merge (bad p) o ≡ o
merge_left p (ok v a t) l = refl
merge_left p (soft q v a t) l = refl
merge_left p (bad q) l = ap bad (omega arith)

module _ {base l d o : Reader Tree} (h : Leads base l d o) (at : ℕ) (s : List ℕ) where
  pub lead_array : dashed s ≡ true → lead_r l d o at s ≡ d at s
  unfolding lead_r or_r
  lead_array y =
      let u = (line_lost h at s) (or_left (keyed (key_r at s)) y) in
      let p = u.0 in
      let k : p ≤ key_stop at s = u.2 in
      let e = dash_key.level at s y in
      let g = h.array.goes at s y in
      rw (u.1, h.object.shut at s (dash_key.alone at s y), merge_right (d at s) (key_stop at s) (omega arith)) (merge_left p (d at s) (omega arith))

  pub lead_object : keyed (key_r at s) ≡ true → lead_r l d o at s ≡ o at s
  unfolding lead_r or_r
  lead_object y = by (dashed s) refl
    where
      by : (x : Bool) → dashed s ≡ x → merge (l at s) (merge (d at s) (o at s)) ≡ o at s
      by true x = absurd (clash y (dash_key.alone at s x))
      by false x =
          let u = (line_lost h at s) (or_right (dashed s) y) in
          let p = u.0 in
          let k : p ≤ key_stop at s = u.2 in
          let e = dash_key.low at s in
          let g = h.object.goes at s y in
          rw (u.1, h.array.shut at s x, merge_left (dash_stop at s) (o at s) (omega arith)) (merge_left p (o at s) (omega arith))

  pub lead_line : dashed s ≡ false → keyed (key_r at s) ≡ false → lead_r l d o at s ≡ merge (l at s) (bad (key_stop at s))
  unfolding lead_r or_r
  lead_line x y = rw (h.array.shut at s x, h.object.shut at s y) (ap (λ (n : ℕ). merge (l at s) (bad n)) (omega (arith, dash_key.low at s)))

-- THE THREE PLACES where it is so: nested content, items and the root
module _ (k m at : ℕ) (s : List ℕ) where
  pub nested_array : dashed s ≡ true → nested_here_r (suc k) m at s ≡ array_r m (item_r k (suc (suc m))) at s
  unfolding nested_here_r
  nested_array = lead_array (nested_lead k m) at s

  pub nested_object : keyed (key_r at s) ≡ true → nested_here_r (suc k) m at s ≡ object_r k m (nested_r k (suc (suc m))) at s
  unfolding nested_here_r
  nested_object = lead_object (nested_lead k m) at s

  pub nested_line : dashed s ≡ false → keyed (key_r at s) ≡ false → nested_here_r (suc k) m at s ≡ merge (nested_line_r m at s) (bad (key_stop at s))
  unfolding nested_here_r
  nested_line = lead_line (nested_lead k m) at s

module _ (k c at : ℕ) (s : List ℕ) where
  pub item_array : dashed s ≡ true → item_r (suc k) c at s ≡ bullet_r (item_r k (suc (suc c))) at s
  unfolding item_r
  item_array = lead_array (item_lead k c) at s

  pub item_object : keyed (key_r at s) ≡ true → item_r (suc k) c at s ≡ object_r k c (nested_r k (suc (suc c))) at s
  unfolding item_r
  item_object = lead_object (item_lead k c) at s

  pub item_line : dashed s ≡ false → keyed (key_r at s) ≡ false → item_r (suc k) c at s ≡ merge (opener_r comment_end_r (suc k) c at s) (bad (key_stop at s))
  unfolding item_r
  item_line = lead_line (item_lead k c) at s

module _ (k at : ℕ) (s : List ℕ) where
  pub root_array : dashed s ≡ true → root_r (suc k) at s ≡ array_r 0 (item_r k 2) at s
  unfolding root_r
  root_array = lead_array (root_lead k) at s

  pub root_object : keyed (key_r at s) ≡ true → root_r (suc k) at s ≡ object_r k 0 (nested_r k 2) at s
  unfolding root_r
  root_object = lead_object (root_lead k) at s

  pub root_line : dashed s ≡ false → keyed (key_r at s) ≡ false → root_r (suc k) at s ≡ merge (opener_r feed_end_r (suc k) 0 at s) (bad (key_stop at s))
  unfolding root_r
  root_line = lead_line (root_lead k) at s
