-- THE CHILDREN OF A CONTAINER, member by member: an element of an array, a key and a value of an object (`Member`), and any number of them (`Many`). Assumes nothing.
use Rattle.std.specs.Prelude.{◌≡◌, refl, Bool, true, false, ℕ, suc, ◌+◌, ◌≤◌}
use Rattle.std.proofs.Common.{sym, ap, subst, ◌∙◌, arith}
use Rattle.language.specs.Kind.{ARRAY, OBJECT, KEY}
use Rattle.language.specs.Tree.{Decoded, Tree, leaf, node, Forest, none, more, size, sizes, Once}
use Rattle.shaped.specs.Shaped.{Scripted, Shaped, shaped_array, shaped_object, shaped_leaf, Scalar, Elements, elements_none, elements_more, Pairs, pairs_none, pairs_more}
use Rattle.shaped.specs.Beside.{beside, beside_size}
use Rattle.sound.specs.Distinct.{again_here, again_later, Distinct, Onces, onces_none, onces_more, node_once, once_onces, leaf_once}

-- a tree as a document without repeated keys has it, with at most k containers one inside another
pub record Sane (k : ℕ) (t : Tree) : Type 0 where
  pub shaped : Shaped k t
  pub once : Once t

-- one tree
pub data One (P : Tree → Type 0) : Forest → Type 0 where
  one : {t : Tree} → P t → One P (more t none)

-- a key
pub data IsKey : Tree → Type 0 where
  is_a_key : {a e : ℕ} {s : Decoded} → Scripted s.bytes → IsKey (leaf KEY a e s)

-- a member of an object, a key and a value; or of an array
pub data Member : Bool → ℕ → Forest → Type 0 where
  pair : {k : ℕ} {t v : Tree} → IsKey t → Sane k v → Member true k (more t (more v none))
  element : {k : ℕ} {t : Tree} → Sane k t → Member false k (more t none)

abbrev pub container_kind : Bool → ℕ
container_kind true = OBJECT
container_kind false = ARRAY

-- n members, one behind another
pub data Many (Q : Forest → Type 0) : ℕ → Forest → Type 0 where
  many_none : Many Q 0 none
  many_more : {n : ℕ} {ts us vs : Forest} → Q ts → Many Q n us → vs ≡ beside ts us → Many Q (suc n) vs

beside_none : (ts : Forest) → beside ts none ≡ ts
unfolding beside
beside_none none = refl
beside_none (more t ts) = ap (more t) (beside_none ts)

beside_beside : (ts us vs : Forest) → beside (beside ts us) vs ≡ beside ts (beside us vs)
unfolding beside
beside_beside none us vs = refl
beside_beside (more t ts) us vs = ap (more t) (beside_beside ts us vs)

-- one more behind them
pub many_last : {Q : Forest → Type 0} {n : ℕ} {ts us : Forest} → Many Q n ts → Q us → Many Q (n + 1) (beside ts us)
unfolding beside
many_last {us = us} many_none q = many_more q many_none (sym (beside_none us))
many_last {Q} {n = suc n} {us = us} (many_more {ts = ts} {us = ws} {vs = vs} p m e) q =
    let h : suc (n + 1) ≡ suc n + 1 = omega arith in
    subst (λ (i : ℕ). Many Q i (beside vs us)) h (many_more p (many_last m q) (ap (λ (f : Forest). beside f us) e ∙ beside_beside ts ws us))

-- AN ARRAY'S CHILDREN are so many elements, an object's so many pairs
elements_many : {k n : ℕ} {ts : Forest} → Elements k n ts → Onces ts → Many (Member false k) n ts
unfolding beside
elements_many elements_none o = many_none
elements_many (elements_more x xs) (onces_more u o) = many_more (element (record { shaped = x; once = u })) (elements_many xs o) refl

pairs_many : {k n : ℕ} {ts : Forest} → Pairs k n ts → Onces ts → Many (Member true k) n ts
unfolding beside
pairs_many pairs_none o = many_none
pairs_many (pairs_more s x xs) (onces_more u (onces_more v o)) = many_more (pair (is_a_key s) (record { shaped = x; once = v })) (pairs_many xs o) refl

many_elements : {k n : ℕ} {ts : Forest} → Many (Member false k) n ts → Elements k n ts
unfolding beside
many_elements many_none = elements_none
many_elements {k} (many_more {n = n} {us = us} q m e) = subst (Elements k (suc n)) (sym e) (go q (many_elements m))
  where
    go : {fs : Forest} → Member false k fs → Elements k n us → Elements k (suc n) (beside fs us)
    go (element x) y = elements_more x.shaped y

pub many_pairs : {k n : ℕ} {ts : Forest} → Many (Member true k) n ts → Pairs k n ts
unfolding beside
many_pairs many_none = pairs_none
many_pairs {k} (many_more {n = n} {us = us} q m e) = subst (Pairs k (suc n)) (sym e) (go q (many_pairs m))
  where
    go : {fs : Forest} → Member true k fs → Pairs k n us → Pairs k (suc n) (beside fs us)
    go (pair (is_a_key s) x) y = pairs_more s x.shaped y

many_onces : {o : Bool} {k n : ℕ} {ts : Forest} → Many (Member o k) n ts → Onces ts
unfolding beside
many_onces many_none = onces_none
many_onces {o} {k} (many_more {us = us} q m e) = subst Onces (sym e) (go q (many_onces m))
  where
    go : {o : Bool} {fs : Forest} → Member o k fs → Onces us → Onces (beside fs us)
    go (pair (is_a_key s) x) y = onces_more leaf_once (onces_more x.once y)
    go (element x) y = onces_more x.once y

-- no element is a key
pub no_scalar_key : {s : Rattle.language.specs.Tree.Decoded} {k a e : ℕ} → Shaped k (leaf KEY a e s) → ⊥
no_scalar_key (shaped_leaf x) = go refl x
  where
    go : {i : ℕ} {u : mathlib.Core.List.List ℕ} → i ≡ KEY → Scalar i u → ⊥
    go e Scalar.is_null = omega arith
    go e Scalar.is_false = omega arith
    go e Scalar.is_true = omega arith
    go e (Scalar.is_an_integer x) = omega arith
    go e (Scalar.is_float x) = omega arith
    go e (Scalar.is_string x) = omega arith
    go e (Scalar.is_bytes x) = omega arith

elements_distinct : {k n : ℕ} {ts : Forest} → Elements k n ts → Distinct ts
elements_distinct elements_none p x = elim x [ ]
elements_distinct (elements_more s xs) p (again_here h) = no_scalar_key s
elements_distinct (elements_more s xs) p (again_later x) = elements_distinct xs p x

pub array_distinct : {k n : ℕ} {ts : Forest} → Many (Member false k) n ts → Distinct ts
array_distinct m = elements_distinct (many_elements m)

-- A CONTAINER of so many members, of which no two keys are equal
pub contained : (o : Bool) {k a e n : ℕ} {ts : Forest} → Many (Member o k) n ts → Distinct ts → Sane (suc k) (node (container_kind o) a e n ts)
contained true m d = record { shaped = shaped_object (many_pairs m); once = node_once d (many_onces m) }
contained false m d = record { shaped = shaped_array (many_elements m); once = node_once d (many_onces m) }

-- .. and back
pub array_many : {k a e n : ℕ} {ts : Forest} → Elements k n ts → Once (node ARRAY a e n ts) → Many (Member false k) n ts
array_many x u = elements_many x (once_onces u)

pub object_many : {k a e n : ℕ} {ts : Forest} → Pairs k n ts → Once (node OBJECT a e n ts) → Many (Member true k) n ts
object_many x u = pairs_many x (once_onces u)

-- a member has a row
pub some_size : (t : Tree) → 1 ≤ size t
unfolding size
some_size (leaf k a e s) = omega arith
some_size (node k a e c ts) = omega arith

pub some_member : {o : Bool} {k : ℕ} {ts : Forest} → Member o k ts → 1 ≤ sizes ts
unfolding sizes
some_member (pair {t = t} x y) = omega (arith, some_size t)
some_member (element {t = t} x) = omega (arith, some_size t)

pub few_members : {o : Bool} {k n : ℕ} {ts : Forest} → Many (Member o k) n ts → n ≤ sizes ts
few_members many_none = omega arith
few_members (many_more {ts = ts} {us = us} q m e) = omega (arith, some_member q, few_members m, ap sizes e, beside_size ts us)
