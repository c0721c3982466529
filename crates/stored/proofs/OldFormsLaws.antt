-- WHERE NO CONTENT IS OVER 65,535 BYTES the form is that of Ticket 4 (`old_form`), and so are the spans (`old_placed`). Assumes nothing.
use Rattle.std.specs.Prelude.{◌≡◌, refl, List, ◌++◌, ℕ, ◌+◌, ◌-◌, ◌≤◌, ◌<◌, length}
use Rattle.std.proofs.Common.{ap, ap₂, ◌∙◌, arith, length-append}
use Rattle.std.proofs.Math.Decide.{dec_le}
use Rattle.language.specs.Tree.{Tree, leaf, node, Forest, none, more}
use Rattle.stored.specs.Form as now
use Rattle.stored.specs.Form.{head, widest, tag, inside}
use Rattle.stored.specs.Parts.{inside_first}
use Rattle.stored.proofs.PartsLaws.{cut_short}
use Rattle.stored.specs.Old.{content, forms, form, Wide, wide_here, wide_below, Wides, wide_first, wide_later, placed, placeds}
use Rattle.stored.specs.OldForms.{Straight, begins, narrow_here, straight_first, straight_rest, within}

-- a field whose content is the old one
same_field : (t : Tree) → now.content t ≡ content t → (Wide t → ⊥) → now.form t ≡ form t
same_field t e f = ap (λ (s : List ℕ). now.cut (tag t) s) e ∙ cut_short (tag t) (content t) (narrow_here t f)

mutual
  unfolding now.content content

  same_content : (t : Tree) → (Wide t → ⊥) → now.content t ≡ content t
  same_content (leaf k a e s) f = refl
  same_content (node k a e c ts) f = same_forms ts (λ w. f (wide_below w))

  same_forms : (ts : Forest) → (Wides ts → ⊥) → now.forms ts ≡ forms ts
  same_forms none f = refl
  same_forms (more t ts) f =
      ap₂ (λ (s u : List ℕ). s ++ u) (same_field t (same_content t (λ w. f (wide_first w))) (λ w. f (wide_first w))) (same_forms ts (λ w. f (wide_later w)))

-- THE FORM IS THE OLD ONE
pub old_form : (t : Tree) → (Wide t → ⊥) → now.form t ≡ form t
old_form t f = same_field t (same_content t f) f

module _ {at : ℕ → ℕ} {a : ℕ} (t : Tree) (f : Wide t → ⊥) (h : Straight at a (length (form t))) where
  ends : at (length (now.form t) - 1) + 1 ≡ a + length (form t)
  ends = ap (λ (s : List ℕ). at (length s - 1) + 1) (old_form t f) ∙ (ap (λ i. i + 1) (h.goes (length (form t) - 1) (omega arith)) ∙ omega arith)

mutual
  unfolding now.placed placed content

  same_placed : {at : ℕ → ℕ} {a : ℕ} (t : Tree) → (Wide t → ⊥) → Straight at a (length (form t)) → now.placed at t ≡ placed a t
  same_placed (leaf k b e s) f h = rw (begins (leaf k b e s) f h, ends (leaf k b e s) f h)
  same_placed (node k b e c ts) f h = rw (begins (node k b e c ts) f h, ends (node k b e c ts) f h, same_placeds ts (λ w. f (wide_below w)) (within (node k b e c ts) f h))

  pub same_placeds : {at : ℕ → ℕ} {a : ℕ} (ts : Forest) → (Wides ts → ⊥) → Straight at a (length (forms ts)) → now.placeds at ts ≡ placeds a ts
  same_placeds none f h = refl
  same_placeds {at} {a} (more t ts) f h =
      let g : now.placeds (λ i. at (length (now.form t) + i)) ts ≡ now.placeds (λ i. at (length (form t) + i)) ts =
      ap (λ (s : List ℕ). now.placeds (λ i. at (length s + i)) ts) (old_form t (λ w. f (wide_first w))) in
      ap₂ more (same_placed t (λ w. f (wide_first w)) (straight_first t ts h)) (g ∙ same_placeds ts (λ w. f (wide_later w)) (straight_rest t ts h))

-- THE SPANS ARE THE OLD ONES
pub old_placed : (t : Tree) → (Wide t → ⊥) → now.loaded t ≡ placed 0 t
old_placed t f = same_placed t f (record { goes = λ i l. omega arith })
