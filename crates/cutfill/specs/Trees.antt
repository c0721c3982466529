-- TREES IN A CONTENT THAT IS CUT (`Deep`): values with at most so many containers one inside another, and keys; the rows of a leaf and of a container as they are placed. Assumes nothing.
use Rattle.std.specs.Prelude.{◌≡◌, refl, ◌++◌, ℕ, suc, ◌+◌, ◌-◌, ◌≤◌, length, leb}
use Rattle.std.proofs.Common.{sym, ap, arith}
use Rattle.notation.specs.Class.{pick}
use Rattle.language.specs.Kind.{KEY}
use Rattle.language.specs.Tree.{Decoded, unlined, Tree, leaf, node, Forest, none, more, row_list, size, sizes, text_of, rows_of, rowss}
use Rattle.shaped.specs.Shaped.{Scripted, Shaped, shaped_leaf, shaped_array, shaped_object, Elements, elements_none, elements_more, Pairs, pairs_none, pairs_more}
use Rattle.shaped.specs.RowsAt.{leaf_list}
use Rattle.shaped.specs.Beside.{beside}
use Rattle.stored.specs.Form.{PART, inside, tag, content, form, placed, placeds}
use Rattle.stored.specs.Lengths.{scalar_content}
use Rattle.fields.specs.Rows.{Kept, kept_key, kept_value, Kepts, kepts_none, kepts_more, scalar_low, size_some}
use Rattle.uncut.specs.Filling.{trees, elements_trees, pairs_trees, members_of}
use Rattle.wide.specs.Cut.{sane_true}
use Rattle.cutfill.specs.Placed.{placeds_size}

-- A VALUE, OR A KEY; such trees one behind another
pub data Deep (k : ℕ) : Tree → Type 0 where
  deep_key : {a e : ℕ} {s : Decoded} → Scripted s.bytes → Deep k (leaf KEY a e s)
  deep_value : {t : Tree} → Shaped k t → Deep k t

pub data Deeps (k : ℕ) : Forest → Type 0 where
  deeps_none : Deeps k none
  deeps_more : {t : Tree} {ts : Forest} → Deep k t → Deeps k ts → Deeps k (more t ts)

pub elements_deep : {k n : ℕ} {ts : Forest} → Elements k n ts → Deeps k ts
elements_deep elements_none = deeps_none
elements_deep (elements_more x xs) = deeps_more (deep_value x) (elements_deep xs)

pub pairs_deep : {k n : ℕ} {ts : Forest} → Pairs k n ts → Deeps k ts
pairs_deep pairs_none = deeps_none
pairs_deep (pairs_more y x xs) = deeps_more (deep_key y) (deeps_more (deep_value x) (pairs_deep xs))

pub deep_kept : {k : ℕ} {t : Tree} → Deep k t → Kept t
deep_kept (deep_key x) = kept_key x
deep_kept (deep_value x) = kept_value x

pub deep_true : {k : ℕ} {t : Tree} → Deep k t → tag t ≡ PART → ⊥
deep_true (deep_key x) e = omega arith
deep_true (deep_value x) e = sane_true x e

-- a tag is a kind
pub deep_low : {k : ℕ} {t : Tree} → Deep k t → tag t ≤ 10
deep_low (deep_key x) = omega arith
deep_low (deep_value (shaped_leaf x)) = let l = scalar_low x in omega arith
deep_low (deep_value (shaped_array x)) = omega arith
deep_low (deep_value (shaped_object x)) = omega arith

pub front_kept : {k : ℕ} (ts us : Forest) → Deeps k (beside ts us) → Kepts ts
unfolding beside
front_kept none us d = kepts_none
front_kept (more t ts) us (deeps_more x xs) = kepts_more (deep_kept x) (front_kept ts us xs)

pub rest_deep : {k : ℕ} (ts us : Forest) → Deeps k (beside ts us) → Deeps k us
unfolding beside
rest_deep none us d = d
rest_deep (more t ts) us (deeps_more x xs) = rest_deep ts us xs

-- each tree has a row
pub trees_few : (ts : Forest) → trees ts ≤ sizes ts
unfolding trees size
trees_few none = omega arith
trees_few (more t ts) = let h = trees_few ts in omega (arith, size_some t)

pub trees_beside : (ts us : Forest) → trees (beside ts us) ≡ trees ts + trees us
unfolding trees beside
trees_beside none us = omega arith
trees_beside (more t ts) us = let h = trees_beside ts us in omega arith

-- the tag is a container's
pub record Container (k : ℕ) : Type 0 where
  pub least : 8 ≤ k
  pub most : k ≤ 9

-- ---- the rows of one tree as it is placed

pub record Leafed (f : ℕ → ℕ) (t : Tree) (r p x : ℕ) : Type 0 where
  pub rows_are : rows_of unlined r p x (placed f t) ≡ row_list unlined (tag t) (f 0) (f (length (form t) - 1) + 1) (pick (leb (tag t) 3) 0 x) (pick (leb (tag t) 3) 0 (x + length (text_of t))) p (r + 1)
  pub one_row : size t ≡ 1
  pub text_is : content t ≡ text_of t

leaf_rows : (f : ℕ → ℕ) (k a e : ℕ) (s : Decoded) (r p x : ℕ) → content (leaf k a e s) ≡ s.bytes → Leafed f (leaf k a e s) r p x
unfolding placed rows_of size text_of
leaf_rows f k a e s r p x c =
    record {
      rows_are = leaf_list (leb k 3) unlined k (f 0) (f (length (form (leaf k a e s)) - 1) + 1) x (x + length s.bytes) p (r + 1);
      one_row = refl;
      text_is = c;
    }

pub deep_leaf : {k : ℕ} (f : ℕ → ℕ) (t : Tree) (r p x : ℕ) → Deep k t → (Container (tag t) → ⊥) → Leafed f t r p x
unfolding content
deep_leaf f (leaf k a e s) r p x (deep_key y) g = leaf_rows f k a e s r p x refl
deep_leaf f (leaf k a e s) r p x (deep_value (shaped_leaf y)) g = leaf_rows f k a e s r p x (scalar_content k a e s y)
deep_leaf f (node k a e c ts) r p x (deep_value (shaped_array y)) g = absurd (g (record { least = omega arith; most = omega arith }))
deep_leaf f (node k a e c ts) r p x (deep_value (shaped_object y)) g = absurd (g (record { least = omega arith; most = omega arith }))

-- a container's children
pub record Opened (k : ℕ) (t : Tree) : Type 0 where
  pub allow : ℕ
  pub less : k ≡ suc allow
  pub first : ℕ
  pub after : ℕ
  pub count : ℕ
  pub children : Forest
  pub is : t ≡ node (tag t) first after count children
  pub kept : Deeps allow children
  pub members : count ≡ members_of (tag t) (trees children)

pub opened : {k : ℕ} (t : Tree) → Deep k t → Container (tag t) → Opened k t
opened (leaf k f e s) (deep_key y) c = absurd (omega (arith, c.most))
opened (leaf k f e s) (deep_value (shaped_leaf y)) c = absurd (let z = scalar_low y in omega (arith, c.least))
opened (node k f e n ts) (deep_value (shaped_array {k = l} y)) c =
    record { allow = l; less = refl; first = f; after = e; count = n; children = ts; is = refl; kept = elements_deep y; members = sym (elements_trees y) }
opened (node k f e n ts) (deep_value (shaped_object {k = l} y)) c =
    record { allow = l; less = refl; first = f; after = e; count = n; children = ts; is = refl; kept = pairs_deep y; members = let z = pairs_trees y in omega arith }

pub node_rows : (f : ℕ → ℕ) (k a e c : ℕ) (ts : Forest) (r p x r' : ℕ) → r' ≡ r + 1 + sizes ts
    → rows_of unlined r p x (placed f (node k a e c ts)) ≡ row_list unlined k (f 0) (f (length (form (node k a e c ts)) - 1) + 1) 0 c p r' ++ rowss unlined (r + 1) r x (placeds (λ i. f (inside i)) ts)
unfolding placed rows_of
node_rows f k a e c ts r p x r' h =
    let g : ℕ → ℕ = λ i. f (inside i) in
    let n : r + 1 + sizes (placeds g ts) ≡ r' = omega (arith, placeds_size g ts) in
    ap (λ (j : ℕ). row_list unlined k (f 0) (f (length (form (node k a e c ts)) - 1) + 1) 0 c p j ++ rowss unlined (r + 1) r x (placeds g ts)) n
