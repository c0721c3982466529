-- THE STORED FORM TELLS THE TREE but for spans (`form_tells`): fields one behind another can be taken apart in one way only (`form_apart`). Assumes nothing.
use Rattle.std.specs.Prelude.{◌≡◌, refl, true, false, List, [], ◌∷◌, ◌++◌, ℕ, suc, length}
use Rattle.std.proofs.Common.{sym, ap, ◌∙◌, arith}
use Rattle.notation.specs.Class.{◌to◌, Class, is}
use Rattle.language.specs.Kind.{ARRAY, OBJECT, KEY}
use Rattle.language.specs.Tree.{Decoded, Tree, leaf, node, Forest, none, more}
use Rattle.language.specs.Alike.{unspan, unspans, Alike}
use Rattle.exact.specs.Class.{clash}
use Rattle.shaped.specs.Shaped.{Scalar, is_null, is_false, is_true, is_an_integer, is_float, is_string, is_bytes, Shaped, shaped_leaf, shaped_array, shaped_object, Elements, elements_none, elements_more, Pairs, pairs_none, pairs_more}
use Rattle.stored.specs.Form.{PART, tag, content, forms, form}
use Rattle.stored.specs.Parts.{Fields}
use Rattle.stored.proofs.PartsLaws.{cut_apart}
use Rattle.stored.specs.Lengths.{scalar_content}
use Rattle.stored.proofs.LengthsLaws.{forms_length, form_longer}
use Rattle.stored.specs.Apart.{Both, array_true, key_true, no_container, object_true, scalar_true, two_kinds}

-- ONE FIELD in its parts, whose true tag is no part's
tree_apart : (t u : Tree) {r w : List ℕ} → (tag t ≡ PART → ⊥) → (tag u ≡ PART → ⊥) → form t ++ r ≡ form u ++ w → Fields (tag t) (tag u) (content t) (content u) r w
tree_apart t u f g h = cut_apart (content t) (content u) f g h

-- leaves whose contents are their texts
leaves_apart : {k j a b e f : ℕ} {s z : Decoded} {r w : List ℕ} → (k ≡ PART → ⊥) → (j ≡ PART → ⊥) → content (leaf k a e s) ≡ s.bytes → content (leaf j b f z) ≡ z.bytes → form (leaf k a e s) ++ r ≡ form (leaf j b f z) ++ w
    → Both (leaf k a e s) (leaf j b f z) r w
unfolding unspan
leaves_apart {k} {j} {a} {b} {e} {f} {s} {z} m n p q h =
    let x = tree_apart (leaf k a e s) (leaf j b f z) m n h in
    let i : k ≡ j = x.kind in
    let l : s.bytes ≡ z.bytes = sym p ∙ (x.content ∙ q) in
    record { alike = rw (i, l); rest = x.rest }

-- no field, and some
no_forms : (t : Tree) (ts : Forest) → forms (more t ts) ≡ forms none → ⊥
unfolding content
no_forms t ts h = omega (arith, forms_length t ts, form_longer t, ap length h)

mutual
  unfolding content unspan

  -- FIELDS ONE BEHIND ANOTHER can be taken apart
  pub form_apart : {k l : ℕ} {t u : Tree} {r w : List ℕ} → Shaped k t → Shaped l u → form t ++ r ≡ form u ++ w → Both t u r w
  form_apart (shaped_leaf {kind = k} {a = a} {e = e} {s = s} x) (shaped_leaf {kind = j} {a = b} {e = f} {s = z} y) h =
      leaves_apart (scalar_true x) (scalar_true y) (scalar_content k a e s x) (scalar_content j b f z y) h
  form_apart (shaped_leaf {kind = k} {a = a} {e = e} {s = s} x) (shaped_array {a = b} {e = f} {n = d} {ts = us} y) h =
      absurd (no_container x (tree_apart (leaf k a e s) (node ARRAY b f d us) (scalar_true x) array_true h).kind refl)
  form_apart (shaped_leaf {kind = k} {a = a} {e = e} {s = s} x) (shaped_object {a = b} {e = f} {n = d} {ts = us} y) h =
      absurd (no_container x (tree_apart (leaf k a e s) (node OBJECT b f d us) (scalar_true x) object_true h).kind refl)
  form_apart (shaped_array {a = a} {e = e} {n = c} {ts = ts} x) (shaped_leaf {kind = j} {a = b} {e = f} {s = z} y) h =
      absurd (no_container y (sym (tree_apart (node ARRAY a e c ts) (leaf j b f z) array_true (scalar_true y) h).kind) refl)
  form_apart (shaped_array {a = a} {e = e} {n = c} {ts = ts} x) (shaped_array {a = b} {e = f} {n = d} {ts = us} y) h =
      let q = tree_apart (node ARRAY a e c ts) (node ARRAY b f d us) array_true array_true h in
      let g = elements_apart x y q.content in
      record { alike = rw (g.0, g.1); rest = q.rest }
  form_apart (shaped_array {a = a} {e = e} {n = c} {ts = ts} x) (shaped_object {a = b} {e = f} {n = d} {ts = us} y) h =
      absurd (two_kinds (tree_apart (node ARRAY a e c ts) (node OBJECT b f d us) array_true object_true h).kind)
  form_apart (shaped_object {a = a} {e = e} {n = c} {ts = ts} x) (shaped_leaf {kind = j} {a = b} {e = f} {s = z} y) h =
      absurd (no_container y (sym (tree_apart (node OBJECT a e c ts) (leaf j b f z) object_true (scalar_true y) h).kind) refl)
  form_apart (shaped_object {a = a} {e = e} {n = c} {ts = ts} x) (shaped_array {a = b} {e = f} {n = d} {ts = us} y) h =
      absurd (two_kinds (sym (tree_apart (node OBJECT a e c ts) (node ARRAY b f d us) object_true array_true h).kind))
  form_apart (shaped_object {a = a} {e = e} {n = c} {ts = ts} x) (shaped_object {a = b} {e = f} {n = d} {ts = us} y) h =
      let q = tree_apart (node OBJECT a e c ts) (node OBJECT b f d us) object_true object_true h in
      let g = pairs_apart x y q.content in
      record { alike = rw (g.0, g.1); rest = q.rest }

  elements_apart : {k l n m : ℕ} {ts us : Forest} → Elements k n ts → Elements l m us → forms ts ≡ forms us → (unspans ts ≡ unspans us) × (n ≡ m)
  elements_apart elements_none elements_none h = (refl, refl)
  elements_apart elements_none (elements_more {t = u} {ts = us} x y) h = absurd (no_forms u us (sym h))
  elements_apart (elements_more {t = t} {ts = ts} x y) elements_none h = absurd (no_forms t ts h)
  elements_apart (elements_more x y) (elements_more x' y') h =
      let b = form_apart x x' h in
      let g = elements_apart y y' b.rest in
      (rw (b.alike, g.0), ap suc g.1)

  pairs_apart : {k l n m : ℕ} {ts us : Forest} → Pairs k n ts → Pairs l m us → forms ts ≡ forms us → (unspans ts ≡ unspans us) × (n ≡ m)
  pairs_apart pairs_none pairs_none h = (refl, refl)
  pairs_apart pairs_none (pairs_more {a = a} {e = e} {s = s} {v = v} {ts = us} x y z) h = absurd (no_forms (leaf KEY a e s) (more v us) (sym h))
  pairs_apart (pairs_more {a = a} {e = e} {s = s} {v = v} {ts = ts} x y z) pairs_none h = absurd (no_forms (leaf KEY a e s) (more v ts) h)
  pairs_apart (pairs_more {a = a} {e = e} {s = s} x y z) (pairs_more {a = a'} {e = e'} {s = s'} x' y' z') h =
      let i = tree_apart (leaf KEY a e s) (leaf KEY a' e' s') key_true key_true h in
      let b = form_apart y y' i.rest in
      let g = pairs_apart z z' b.rest in
      (rw (i.content, b.alike, g.0), ap suc g.1)

-- THE THEOREM
pub form_tells : {k l : ℕ} {t u : Tree} → Shaped k t → Shaped l u → form t ≡ form u → Alike t u
form_tells {t = t} {u = u} x y e = (form_apart {r = []} {w = []} x y (ap (λ (l : List ℕ). l ++ []) e)).alike
