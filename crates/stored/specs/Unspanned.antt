-- THE STORED FORM DOES NOT DEPEND ON SPANS (`form_alike`), nor does the tree that it holds (`placed_alike`), which is like the one stored (`placed_like`). Assumes nothing.
use Rattle.std.specs.Prelude.{◌≡◌, refl, List, ℕ, ◌+◌, length}
use Rattle.std.proofs.Common.{sym, ap, ap₂, ◌∙◌}
use Rattle.language.specs.Tree.{Tree, leaf, node, Forest, none, more}
use Rattle.language.specs.Alike.{unspan, unspans, Alike}
use Rattle.stored.specs.Form.{cut, tag, content, forms, form, inside, placed, placeds}

tag_unspan : (t : Tree) → tag (unspan t) ≡ tag t
unfolding unspan
tag_unspan (leaf k a e s) = refl
tag_unspan (node k a e c ts) = refl

mutual
  unfolding unspan content

  content_unspan : (t : Tree) → content (unspan t) ≡ content t
  content_unspan (leaf k a e s) = refl
  content_unspan (node k a e c ts) = forms_unspan ts

  forms_unspan : (ts : Forest) → forms (unspans ts) ≡ forms ts
  forms_unspan none = refl
  forms_unspan (more t ts) = rw (tag_unspan t, content_unspan t, forms_unspan ts)

mutual
  unfolding unspan placed

  placed_unspan : (at : ℕ → ℕ) (t : Tree) → placed at (unspan t) ≡ placed at t
  placed_unspan at (leaf k f e s) = rw (content_unspan (leaf k f e s))
  placed_unspan at (node k f e c ts) = rw (content_unspan (node k f e c ts), placeds_unspan (λ i. at (inside i)) ts)

  placeds_unspan : (at : ℕ → ℕ) (ts : Forest) → placeds at (unspans ts) ≡ placeds at ts
  placeds_unspan at none = refl
  placeds_unspan at (more t ts) = rw (tag_unspan t, content_unspan t, placed_unspan at t, placeds_unspan (λ i. at (length (form t) + i)) ts)

mutual
  unfolding unspan placed

  pub placed_like : (at : ℕ → ℕ) (t : Tree) → Alike (placed at t) t
  placed_like at (leaf k f e s) = refl
  placed_like at (node k f e c ts) = rw (placeds_like (λ i. at (inside i)) ts)

  placeds_like : (at : ℕ → ℕ) (ts : Forest) → unspans (placeds at ts) ≡ unspans ts
  placeds_like at none = refl
  placeds_like at (more t ts) = rw (placed_like at t, placeds_like (λ i. at (length (form t) + i)) ts)

module _ (t u : Tree) (h : Alike t u) where
  tag_alike : tag t ≡ tag u
  tag_alike = sym (tag_unspan t) ∙ (ap (λ (v : Tree). tag v) h ∙ tag_unspan u)

  content_alike : content t ≡ content u
  content_alike = sym (content_unspan t) ∙ (ap content h ∙ content_unspan u)

  -- "One tree has one stored form"
  pub form_alike : form t ≡ form u
  form_alike = ap₂ (λ (k : ℕ) (c : List ℕ). cut k c) tag_alike content_alike

  pub placed_alike : (at : ℕ → ℕ) → placed at t ≡ placed at u
  placed_alike at = sym (placed_unspan at t) ∙ (ap (placed at) h ∙ placed_unspan at u)
