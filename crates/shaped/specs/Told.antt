-- ROWS AND TEXT TELL THE TREE, spans aside (`rows_tell`): the kind tells a leaf from a container, the next row tells its size, the text words a leaf's length. Assumes nothing.
use Rattle.std.specs.Prelude.{◌≡◌, refl, List, [], ◌∷◌, Bool, true, false, ℕ, ◌+◌, ◌≤◌}
use Rattle.std.proofs.Math.Path.{sym, ap}
use Rattle.std.proofs.Common.{◌∙◌, arith}
use Rattle.std.proofs.Math.ListN.{length}
use Rattle.std.proofs.Math.Dec.{leb}
use Rattle.notation.specs.Class.{pick, ◌to◌, Class, is}
use Rattle.language.specs.Kind.{TRUE}
use Rattle.language.specs.Tree.{Decoded, Tree, leaf, node, Forest, none, more, size, sizes, text_of}
use Rattle.language.specs.Alike.{unspan, unspans, Alike}
use Rattle.exact.specs.Class.{clash}
use Rattle.shaped.specs.Shaped.{Scalar, is_null, is_false, is_true, is_an_integer, is_float, is_string, is_bytes, Shaped, shaped_leaf, shaped_array, shaped_object, Elements, elements_none, elements_more, Pairs, pairs_none, pairs_more}
use Rattle.shaped.specs.TextAt.{TextAt, text_told}
use Rattle.shaped.specs.RowsAt.{text_word, RowsAt, ForestAt, leaf_row, leaf_text, node_row, node_forest, first_at, rest_at}
use Rattle.shaped.specs.Bare.{alike_size, alike_text}

-- the kinds of containers
abbrev containers : Class
containers = (8 to 9) ∷ []

-- a leaf is no container, and has no text where its row tells none; a container is one
mutual
  data Clear : Tree → Type 0 where
    clear_leaf : {k a e : ℕ} {s : Decoded} → is containers k ≡ false → (leb k TRUE ≡ true → s.bytes ≡ []) → Clear (leaf k a e s)
    clear_node : {k a e c : ℕ} {ts : Forest} → is containers k ≡ true → Clears ts → Clear (node k a e c ts)

  data Clears : Forest → Type 0 where
    clear_none : Clears none
    clear_more : {t : Tree} {ts : Forest} → Clear t → Clears ts → Clears (more t ts)

scalar_clear : {k : ℕ} {s : List ℕ} → Scalar k s → (is containers k ≡ false) × (leb k TRUE ≡ true → s ≡ [])
scalar_clear is_null = (refl, λ h. refl)
scalar_clear is_false = (refl, λ h. refl)
scalar_clear is_true = (refl, λ h. refl)
scalar_clear (is_an_integer x) = (refl, λ h. absurd (clash h refl))
scalar_clear (is_float x) = (refl, λ h. absurd (clash h refl))
scalar_clear (is_string x) = (refl, λ h. absurd (clash h refl))
scalar_clear (is_bytes x) = (refl, λ h. absurd (clash h refl))

mutual
  shaped_clear : {k : ℕ} {t : Tree} → Shaped k t → Clear t
  shaped_clear (shaped_leaf x) = let y = scalar_clear x in clear_leaf y.0 y.1
  shaped_clear (shaped_array x) = clear_node refl (elements_clear x)
  shaped_clear (shaped_object x) = clear_node refl (pairs_clear x)

  elements_clear : {k n : ℕ} {ts : Forest} → Elements k n ts → Clears ts
  elements_clear elements_none = clear_none
  elements_clear (elements_more x y) = clear_more (shaped_clear x) (elements_clear y)

  pairs_clear : {k n : ℕ} {ts : Forest} → Pairs k n ts → Clears ts
  pairs_clear pairs_none = clear_none
  pairs_clear (pairs_more x y z) = clear_more (clear_leaf refl (λ h. absurd (clash h refl))) (clear_more (shaped_clear y) (pairs_clear z))

some_row : (t : Tree) → 1 ≤ size t
unfolding size
some_row (leaf k a e s) = omega arith
some_row (node k a e c ts) = omega arith

-- text words tell a text
bytes_told : (c : Bool) {text : List ℕ} {x : ℕ} {s t : List ℕ} → TextAt text x s → TextAt text x t → pick c 0 (x + length s) ≡ pick c 0 (x + length t)
    → (c ≡ true → s ≡ []) → (c ≡ true → t ≡ []) → s ≡ t
bytes_told true h k e f g = f refl ∙ sym (g refl)
bytes_told false h k e f g = text_told h k (omega arith)

module _ (table text : List ℕ) where
  leaves_told : {r p x k k' a a' e e' : ℕ} {s s' : Decoded} → (leb k TRUE ≡ true → s.bytes ≡ []) → (leb k' TRUE ≡ true → s'.bytes ≡ [])
      → RowsAt table text r p x (leaf k a e s) → RowsAt table text r p x (leaf k' a' e' s') → unspan (leaf k a e s) ≡ unspan (leaf k' a' e' s')
  unfolding unspan
  leaves_told {x = x} {k = k} {k' = k'} {s = s} {s' = s'} f g h j =
      let y = leaf_row table text h in
      let z = leaf_row table text j in
      let ek : k ≡ k' = sym y.kind_is ∙ z.kind_is in
      let et : text_word k (x + length s.bytes) ≡ text_word k (x + length s'.bytes) = sym y.to_is ∙ (z.to_is ∙ ap (λ (q : ℕ). text_word q (x + length s'.bytes)) (sym ek)) in
      let es : s.bytes ≡ s'.bytes = bytes_told (leb k TRUE) (leaf_text table text h) (leaf_text table text j) et f (λ q. g (ap (λ (m : ℕ). leb m TRUE) (sym ek) ∙ q)) in
      rw (ek, es)

  mutual
    unfolding unspan size

    trees_told : (r p x : ℕ) (t u : Tree) → Clear t → Clear u → RowsAt table text r p x t → RowsAt table text r p x u → unspan t ≡ unspan u
    trees_told r p x (leaf k a e s) (leaf k' a' e' s') (clear_leaf c f) (clear_leaf d g) h j = leaves_told f g h j
    trees_told r p x (leaf k a e s) (node k' a' e' c' us) (clear_leaf c f) (clear_node d g) h j =
        absurd (clash (ap (is containers) (sym (leaf_row table text h).kind_is ∙ (node_row table text j).kind_is) ∙ d) c)
    trees_told r p x (node k a e c ts) (leaf k' a' e' s') (clear_node d g) (clear_leaf b f) h j =
        absurd (clash (ap (is containers) (sym (leaf_row table text j).kind_is ∙ (node_row table text h).kind_is) ∙ d) b)
    trees_told r p x (node k a e c ts) (node k' a' e' c' us) (clear_node d f) (clear_node b g) h j =
        let y = node_row table text h in
        let z = node_row table text j in
        let ek : k ≡ k' = sym y.kind_is ∙ z.kind_is in
        let ec : c ≡ c' = sym y.to_is ∙ z.to_is in
        let en : sizes ts ≡ sizes us = omega (arith, y.next_is, z.next_is) in
        let ef : unspans ts ≡ unspans us = forests_told (r + 1) r x ts us f g en (node_forest table text h) (node_forest table text j) in
        rw (ek, ec, ef)

    forests_told : (r p x : ℕ) (ts us : Forest) → Clears ts → Clears us → sizes ts ≡ sizes us → ForestAt table text r p x ts → ForestAt table text r p x us → unspans ts ≡ unspans us
    forests_told r p x none none clear_none clear_none n h j = refl
    forests_told r p x none (more u us) clear_none (clear_more d g) n h j = absurd (omega (arith, some_row u))
    forests_told r p x (more t ts) none (clear_more c f) clear_none n h j = absurd (omega (arith, some_row t))
    forests_told r p x (more t ts) (more u us) (clear_more c f) (clear_more d g) n h j =
        let et : Alike t u = trees_told r p x t u c d (first_at table text h) (first_at table text j) in
        let en = alike_size t u et in
        let i : ForestAt table text (r + size t) p (x + length (text_of t)) us = rw (en, alike_text t u et) (rest_at table text j) in
        let es : unspans ts ≡ unspans us = forests_told (r + size t) p (x + length (text_of t)) ts us f g (omega arith) (rest_at table text h) i in
        rw (et, es)

  -- shaped trees whose rows and texts stand at one place are alike
  pub rows_tell : {k l r p x : ℕ} {t u : Tree} → Shaped k t → Shaped l u → RowsAt table text r p x t → RowsAt table text r p x u → Alike t u
  rows_tell {r = r} {p = p} {x = x} {t = t} {u = u} c d h j = trees_told r p x t u (shaped_clear c) (shaped_clear d) h j
