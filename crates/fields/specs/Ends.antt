-- THE END OF THE LAST TEXT below a row (`end_below`) tells how many bytes of text a table's rows have (`holds_end`). Assumes nothing.
use Rattle.std.specs.Prelude.{◌≡◌, List, [], Bool, true, false, length, get_or, leb}
use Rattle.std.proofs.Math.Path.{refl, ap}
use Rattle.std.proofs.Common.{sym, ◌∙◌}
use Prim.Native.Nat.{ℕ, zero, suc, ◌+◌, ◌-◌, ◌*◌, ◌≤◌, ◌<◌}
use native.Mathlib.Omega.{arith}
use Rattle.std.proofs.Math.ListN.{length-append}
use Rattle.notation.specs.Class.{pick}
use Rattle.exact.specs.Class.{clash}
use Rattle.language.specs.Kind.{TRUE, has_text}
use Rattle.language.specs.Tree.{Decoded, Tree, leaf, node, Forest, more, width, size, sizes, text_of, texts_of}
use Rattle.language.specs.Sound.{Holds}
use Rattle.shaped.specs.RowsAt.{RowsAt, ForestAt, leaf_row, node_row, node_forest, first_at, rest_at}
use Rattle.shaped.specs.Leaves.{part_row}
use Rattle.shaped.specs.Shaped.{Scalar, is_null, is_false, is_true, is_an_integer, is_float, is_string, is_bytes, Shaped, shaped_leaf, shaped_array, shaped_object, Elements, elements_none, elements_more, Pairs, pairs_none, pairs_more}
use Rattle.shaped.specs.Holds.{profile_shaped, holds_at}

pub end_below : List ℕ → ℕ → ℕ
end_below table zero = 0
end_below table (suc r) = pick (has_text (get_or table (width * r) 0)) (get_or table (width * r + 4) 0) (end_below table r)

module _ (table text : List ℕ) where
  -- one row more: without a text, and with one
  end_bare : (r : ℕ) → has_text (get_or table (width * r) 0) ≡ false → end_below table (r + 1) ≡ end_below table r
  unfolding end_below
  end_bare r h = ap (end_below table) (let e : r + 1 ≡ suc r = omega arith in e) ∙ rw h refl

  end_text : (r : ℕ) → has_text (get_or table (width * r) 0) ≡ true → end_below table (r + 1) ≡ get_or table (width * r + 4) 0
  unfolding end_below
  end_text r h = ap (end_below table) (let e : r + 1 ≡ suc r = omega arith in e) ∙ rw h refl

  -- the text of a tree ends where the text before it ended, and so many bytes further
  abbrev Ends : ℕ → ℕ → ℕ → List ℕ → Type 0
  Ends r n x s = end_below table r ≡ x → end_below table (r + n) ≡ x + length s

  leaf_ends : {r p x k a e : ℕ} {s : Decoded} → (has_text k ≡ false → s.bytes ≡ []) → (has_text k ≡ true → leb k TRUE ≡ false) → RowsAt table text r p x (leaf k a e s) → Ends r 1 x s.bytes
  leaf_ends {r} {p} {x} {k} {a} {e} {s} f g h z = by (has_text k) refl
    where
      kind : get_or table (width * r) 0 ≡ k
      kind = (leaf_row table text h).kind_is

      by : (b : Bool) → has_text k ≡ b → end_below table (r + 1) ≡ x + length s.bytes
      by true t = end_text r (ap (λ i. has_text i) kind ∙ t) ∙ (part_row table text (g t) h).to_is
      by false t = let l = ap length (f t) in end_bare r (ap (λ i. has_text i) kind ∙ t) ∙ (z ∙ omega arith)

  scalar_ends : {k : ℕ} {s : List ℕ} → Scalar k s → (has_text k ≡ false → s ≡ []) × (has_text k ≡ true → leb k TRUE ≡ false)
  scalar_ends is_null = (λ h. refl, λ h. absurd (clash h refl))
  scalar_ends is_false = (λ h. refl, λ h. absurd (clash h refl))
  scalar_ends is_true = (λ h. refl, λ h. absurd (clash h refl))
  scalar_ends (is_an_integer x) = (λ h. absurd (clash refl h), λ h. refl)
  scalar_ends (is_float x) = (λ h. absurd (clash refl h), λ h. refl)
  scalar_ends (is_string x) = (λ h. absurd (clash refl h), λ h. refl)
  scalar_ends (is_bytes x) = (λ h. absurd (clash refl h), λ h. refl)

  -- a container's row has no text
  node_ends : {r p x k a e c : ℕ} {ts : Forest} → has_text k ≡ false → RowsAt table text r p x (node k a e c ts) → (ForestAt table text (r + 1) r x ts → Ends (r + 1) (sizes ts) x (texts_of ts))
      → Ends r (size (node k a e c ts)) x (text_of (node k a e c ts))
  unfolding size text_of
  node_ends {r} {p} {x} {k} {a} {e} {c} {ts} t h f z =
      let b : end_below table (r + 1) ≡ x = end_bare r (ap (λ i. has_text i) (node_row table text h).kind_is ∙ t) ∙ z in
      ap (end_below table) (let q : r + suc (sizes ts) ≡ r + 1 + sizes ts = omega arith in q) ∙ f (node_forest table text h) b

  -- none, and one behind another
  none_ends : (r x : ℕ) → Ends r 0 x []
  none_ends r x z = ap (end_below table) (let q : r + 0 ≡ r = omega arith in q) ∙ (z ∙ omega arith)

  more_ends : {r p x : ℕ} {t : Tree} {ts : Forest} → ForestAt table text r p x (more t ts) → Ends r (size t) x (text_of t)
      → (ForestAt table text (r + size t) p (x + length (text_of t)) ts → Ends (r + size t) (sizes ts) (x + length (text_of t)) (texts_of ts)) → Ends r (sizes (more t ts)) x (texts_of (more t ts))
  unfolding sizes texts_of
  more_ends {r} {p} {x} {t} {ts} h f g z =
      ap (end_below table) (let q : r + (size t + sizes ts) ≡ r + size t + sizes ts = omega arith in q)
      ∙ (g (rest_at table text h) (f z) ∙ omega (arith, length-append (text_of t) (texts_of ts)))

  mutual
    unfolding size sizes text_of texts_of

    tree_ends : {k r p x : ℕ} {t : Tree} → Shaped k t → RowsAt table text r p x t → Ends r (size t) x (text_of t)
    tree_ends (shaped_leaf y) h = let s = scalar_ends y in leaf_ends s.0 s.1 h
    tree_ends (shaped_array y) h = node_ends refl h (λ f. elements_ends y f)
    tree_ends (shaped_object y) h = node_ends refl h (λ f. pairs_ends y f)

    elements_ends : {k n r p x : ℕ} {ts : Forest} → Elements k n ts → ForestAt table text r p x ts → Ends r (sizes ts) x (texts_of ts)
    elements_ends {r = r} {x = x} elements_none h = none_ends r x
    elements_ends (elements_more y ys) h = more_ends h (tree_ends y (first_at table text h)) (λ f. elements_ends ys f)

    pairs_ends : {k n r p x : ℕ} {ts : Forest} → Pairs k n ts → ForestAt table text r p x ts → Ends r (sizes ts) x (texts_of ts)
    pairs_ends {r = r} {x = x} pairs_none h = none_ends r x
    pairs_ends (pairs_more y v ys) h =
        more_ends h (leaf_ends (λ i. absurd (clash refl i)) (λ i. refl) (first_at table text h)) (λ f. more_ends f (tree_ends v (first_at table text f)) (λ g. pairs_ends ys g))

-- THE TEXT BYTES of a sound table
pub holds_end : {table : List ℕ} {n : ℕ} {text : List ℕ} (t : Tree) → Holds table n text t → end_below table n ≡ length (text_of t)
unfolding end_below
holds_end {table} {n} {text} t h =
    let e : end_below table (0 + size t) ≡ 0 + length (text_of t) = tree_ends table text (profile_shaped h.profile) (holds_at h) refl in
    ap (end_below table) (let z : n ≡ 0 + size t = omega (arith, h.count) in z) ∙ (e ∙ omega arith)

-- a turn of the loop that goes back over the rows: a row with a text, one without, and no row
pub end_here : (table : List ℕ) (rows r n : ℕ) (b : Bool) → end_below table rows ≡ end_below table r → 0 < r → b ≡ has_text (get_or table (width * (r - 1)) 0) → b ≡ true
    → n ≡ get_or table (width * (r - 1) + 4) 0 → n ≡ end_below table rows
end_here table rows r n b h l t e w = w ∙ sym (h ∙ (ap (end_below table) (let q : r ≡ r - 1 + 1 = omega arith in q) ∙ end_text table [] (r - 1) (sym t ∙ e)))

pub end_turn : (table : List ℕ) (rows r : ℕ) (b : Bool) → end_below table rows ≡ end_below table r → 0 < r → b ≡ has_text (get_or table (width * (r - 1)) 0) → b ≡ false
    → end_below table rows ≡ end_below table (r - 1)
end_turn table rows r b h l t e = h ∙ (ap (end_below table) (let q : r ≡ r - 1 + 1 = omega arith in q) ∙ end_bare table [] (r - 1) (sym t ∙ e))

pub end_none : (table : List ℕ) (rows r : ℕ) → end_below table rows ≡ end_below table r → r ≤ 0 → 0 ≡ end_below table rows
unfolding end_below
end_none table rows r h l = sym (h ∙ ap (end_below table) (let e : r ≡ 0 = omega arith in e))
