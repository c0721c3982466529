-- HOW LONG A STORED FORM IS: at least three bytes for each row, and the text (`form_least`), just so many where one field holds them (`form_plain`), and with all heads of parts no more than twice that (`form_most`). So one of few bytes has few rows and little
use Rattle.std.specs.Prelude.{◌≡◌, refl, List, [], ℕ, suc, ◌+◌, ◌*◌, ◌≤◌, length}
use Rattle.std.proofs.Common.{sym, ap, ◌∙◌, arith, mul-add, suc-mul, mul-le-mul_right, length-append}
use Rattle.language.specs.Kind.{KEY, has_text, pick}
use Rattle.language.specs.Tree.{Decoded, Tree, leaf, node, Forest, more, size, sizes, text_of, texts_of}
use Rattle.language.specs.Answered.{deepest}
use Rattle.language.specs.Lent.{lent}
use Rattle.shaped.specs.Shaped.{Scalar, is_null, is_false, is_true, is_an_integer, is_float, is_string, is_bytes, Shaped, shaped_leaf, shaped_array, shaped_object, Elements, elements_none, elements_more, Pairs, pairs_none, pairs_more}
use Rattle.stored.specs.Form.{head, tag, content, forms, form, widest}
use Rattle.stored.specs.Parts.{heads, heads_short}
use Rattle.stored.proofs.PartsLaws.{cut_length}
use Rattle.stored.specs.Lengths.{Most, key_plain, leaf_plain, most_both, most_field, most_more, most_none, plain, plains, plains_more}

pub forms_length : (t : Tree) (ts : Forest) → length (forms (more t ts)) ≡ length (form t) + length (forms ts)
unfolding content
forms_length t ts = length-append (form t) (forms ts)

-- a field is longer than its content by a head or more
pub form_longer : (t : Tree) → head + length (content t) ≤ length (form t)
form_longer t = omega (arith, cut_length (tag t) (content t))

-- ---- NO FEWER
mutual
  unfolding content size text_of

  pub form_least : {k : ℕ} {t : Tree} → Shaped k t → plain t ≤ length (form t)
  form_least (shaped_leaf {kind = k} {a = a} {e = e} {s = s} x) = omega (arith, leaf_plain a e s x, form_longer (leaf k a e s))
  form_least (shaped_array {a = a} {e = e} {n = n} {ts = ts} x) = let l = elements_least x in omega (arith, form_longer (node 8 a e n ts))
  form_least (shaped_object {a = a} {e = e} {n = n} {ts = ts} x) = let l = pairs_least x in omega (arith, form_longer (node 9 a e n ts))

  elements_least : {k n : ℕ} {ts : Forest} → Elements k n ts → plains ts ≤ length (forms ts)
  elements_least elements_none = omega arith
  elements_least (elements_more {t = t} {ts = ts} x y) =
      let l = form_least x in
      let m = elements_least y in
      omega (arith, forms_length t ts, plains_more t ts)

  pairs_least : {k n : ℕ} {ts : Forest} → Pairs k n ts → plains ts ≤ length (forms ts)
  pairs_least pairs_none = omega arith
  pairs_least (pairs_more {a = a} {e = e} {s = s} {v = v} {ts = ts} x y z) =
      let l = form_least y in
      let m = pairs_least z in
      omega (arith, forms_length (leaf KEY a e s) (more v ts), forms_length v ts, plains_more (leaf KEY a e s) (more v ts), plains_more v ts, key_plain a e s, form_longer (leaf KEY a e s))

-- few rows, little text
pub few_rows : {k : ℕ} (t : Tree) → Shaped k t → length (form t) ≤ lent → size t ≤ lent
few_rows t x l = let e = form_least x in omega arith

pub few_text : {k : ℕ} (t : Tree) → Shaped k t → length (form t) ≤ lent → length (text_of t) ≤ lent
few_text t x l = let e = form_least x in omega arith

-- ---- JUST SO MANY, where one field holds them
short_field : (t : Tree) → length (content t) ≤ widest → length (form t) ≡ head + length (content t)
short_field t l = cut_length (tag t) (content t) ∙ omega (arith, heads_short (length (content t)) l)

mutual
  unfolding content size text_of

  pub form_plain : {k : ℕ} {t : Tree} → Shaped k t → plain t ≤ head + widest → length (form t) ≡ plain t
  form_plain (shaped_leaf {kind = k} {a = a} {e = e} {s = s} x) l =
      let p = leaf_plain a e s x in
      short_field (leaf k a e s) (omega arith) ∙ sym p
  form_plain (shaped_array {a = a} {e = e} {n = n} {ts = ts} x) l =
      let i = elements_plain x (omega arith) in
      short_field (node 8 a e n ts) (omega arith) ∙ omega arith
  form_plain (shaped_object {a = a} {e = e} {n = n} {ts = ts} x) l =
      let i = pairs_plain x (omega arith) in
      short_field (node 9 a e n ts) (omega arith) ∙ omega arith

  elements_plain : {k n : ℕ} {ts : Forest} → Elements k n ts → plains ts ≤ widest → length (forms ts) ≡ plains ts
  elements_plain elements_none l = refl
  elements_plain (elements_more {t = t} {ts = ts} x y) l =
      let p = plains_more t ts in
      let i = form_plain x (omega arith) in
      let j = elements_plain y (omega arith) in
      omega (arith, forms_length t ts)

  pairs_plain : {k n : ℕ} {ts : Forest} → Pairs k n ts → plains ts ≤ widest → length (forms ts) ≡ plains ts
  pairs_plain pairs_none l = refl
  pairs_plain (pairs_more {a = a} {e = e} {s = s} {v = v} {ts = ts} x y z) l =
      let q = leaf KEY a e s in
      let p = plains_more q (more v ts) in
      let r = plains_more v ts in
      let k = key_plain a e s in
      let h = short_field q (omega arith) in
      let i = form_plain y (omega arith) in
      let j = pairs_plain z (omega arith) in
      omega (arith, forms_length q (more v ts), forms_length v ts)

-- a leaf's field, and a container's
leaf_most : (k : ℕ) (t : Tree) → plain t ≡ head + length (content t) → Most (suc k) (length (form t)) (plain t)
leaf_most k t e =
    let n = length (content t) in
    let h : Most 1 (n + heads n) (head + n) = most_field 0 n n (omega arith) (omega arith) in
    rw (cut_length (tag t) (content t), e) (most_more 1 (suc k) (n + heads n) (head + n) (omega arith) h)

node_most : (k kind a e c : ℕ) (ts : Forest) → k ≤ 40 → Most k (length (forms ts)) (plains ts) → Most (suc k) (length (form (node kind a e c ts))) (plain (node kind a e c ts))
unfolding content size text_of
node_most k kind a e c ts l h =
    let n = length (forms ts) in
    let p : plain (node kind a e c ts) ≡ head + plains ts = omega arith in
    rw (cut_length kind (forms ts), p) (most_field k n (plains ts) l h)

forest_most : (k : ℕ) (t : Tree) (ts : Forest) → Most k (length (form t)) (plain t) → Most k (length (forms ts)) (plains ts) → Most k (length (forms (more t ts))) (plains (more t ts))
forest_most k t ts h i = rw (forms_length t ts, plains_more t ts) (most_both k (length (form t)) (length (forms ts)) (plain t) (plains ts) h i)

mutual
  unfolding content size text_of

  tree_most : {k : ℕ} {t : Tree} → k ≤ 32 → Shaped k t → Most (suc k) (length (form t)) (plain t)
  tree_most {k} l (shaped_leaf {kind = j} {a = a} {e = e} {s = s} x) = leaf_most k (leaf j a e s) (leaf_plain a e s x)
  tree_most l (shaped_array {k = k} {a = a} {e = e} {n = n} {ts = ts} x) = node_most (suc k) 8 a e n ts (omega arith) (elements_most (let m : k ≤ 32 = omega arith in m) x)
  tree_most l (shaped_object {k = k} {a = a} {e = e} {n = n} {ts = ts} x) = node_most (suc k) 9 a e n ts (omega arith) (pairs_most (let m : k ≤ 32 = omega arith in m) x)

  elements_most : {k n : ℕ} {ts : Forest} → k ≤ 32 → Elements k n ts → Most (suc k) (length (forms ts)) (plains ts)
  elements_most {k} l elements_none = most_none (suc k)
  elements_most {k} l (elements_more {t = t} {ts = ts} x y) = forest_most (suc k) t ts (tree_most l x) (elements_most l y)

  pairs_most : {k n : ℕ} {ts : Forest} → k ≤ 32 → Pairs k n ts → Most (suc k) (length (forms ts)) (plains ts)
  pairs_most {k} l pairs_none = most_none (suc k)
  pairs_most {k} l (pairs_more {a = a} {e = e} {s = s} {v = v} {ts = ts} x y z) =
      let q = leaf KEY a e s in
      forest_most (suc k) q (more v ts) (leaf_most k q (key_plain a e s)) (forest_most (suc k) v ts (tree_most l y) (pairs_most l z))

-- THE BOUND
pub form_most : {t : Tree} → Shaped deepest t → length (form t) ≤ 2 * plain t
form_most {t} x =
    let h = tree_most (let l : deepest ≤ 32 = omega arith in l) x in
    let g = mul-le-mul_right (plain t) (let l : suc deepest ≤ 33 = omega arith in l) in
    omega arith
