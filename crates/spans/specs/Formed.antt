-- KINDS IN THEIR PLACE: what a tree of a value looks like, by its kinds, counts and texts (01, What the reader takes and gives). Assumes nothing.
use Rattle.std.specs.Prelude.{◌≡◌, refl, [], ℕ, suc, ◌+◌, ◌≤◌, ◌<◌}
use Rattle.std.proofs.Common.{ap, arith}
use Rattle.language.specs.Kind.{NULL, TRUE, INTEGER, BYTES, ARRAY, OBJECT, KEY}
use Rattle.language.specs.Tree.{Decoded, unescaped, Tree, leaf, node, Forest, none, more}

-- Formed: null, false and true have no text, and no escape; a number, a string or bytes has its text; an array has values, and an object pairs of a key and a value
-- ("A key's row stands just before its value's row"), and its count is their number. So a key is no value, and no container is a key.
mutual
  pub data Formed : Tree → Type 0 where
    formed_word : {k a e : ℕ} {s : Decoded} → NULL ≤ k → k ≤ TRUE → s ≡ unescaped [] → Formed (leaf k a e s)
    formed_text : {k a e : ℕ} {s : Decoded} → INTEGER ≤ k → k ≤ BYTES → Formed (leaf k a e s)
    formed_array : {a e c : ℕ} {ts : Forest} → Elements c ts → Formed (node ARRAY a e c ts)
    formed_object : {a e c : ℕ} {ts : Forest} → Pairs c ts → Formed (node OBJECT a e c ts)

  pub data Elements : ℕ → Forest → Type 0 where
    no_element : Elements 0 none
    element : {c : ℕ} {t : Tree} {ts : Forest} → Formed t → Elements c ts → Elements (suc c) (more t ts)

  pub data Pairs : ℕ → Forest → Type 0 where
    no_pair : Pairs 0 none
    pair : {c : ℕ} {k v : Tree} {ts : Forest} → IsKey k → Formed v → Pairs c ts → Pairs (suc c) (more k (more v ts))

  -- a key
  pub data IsKey : Tree → Type 0 where
    is_a_key : {a e : ℕ} {s : Decoded} → IsKey (leaf KEY a e s)

abbrev pub kind_of : Tree → ℕ
kind_of (leaf k a e s) = k
kind_of (node k a e c ts) = k

-- a value is no key
pub no_key : {t : Tree} → Formed t → kind_of t < KEY
no_key (formed_word h k l) = omega arith
no_key (formed_text h k) = omega arith
no_key (formed_array x) = omega arith
no_key (formed_object x) = omega arith

-- "the number of elements or pairs"
abbrev pub trees : Forest → ℕ
trees none = 0
trees (more t ts) = suc (trees ts)

pub elements_count : {c : ℕ} {ts : Forest} → Elements c ts → trees ts ≡ c
elements_count no_element = refl
elements_count (element x y) = ap suc (elements_count y)

-- no container is a key: keys are leaves
mutual
  pub data LeafKeys : Tree → Type 0 where
    leaf_keys_leaf : {k a e : ℕ} {s : Decoded} → LeafKeys (leaf k a e s)
    leaf_keys_node : {k a e c : ℕ} {ts : Forest} → (k ≡ KEY → ⊥) → LeafKeysIn ts → LeafKeys (node k a e c ts)

  pub data LeafKeysIn : Forest → Type 0 where
    leaf_keys_none : LeafKeysIn none
    leaf_keys_more : {t : Tree} {ts : Forest} → LeafKeys t → LeafKeysIn ts → LeafKeysIn (more t ts)

key_leaf_keys : {t : Tree} → IsKey t → LeafKeys t
key_leaf_keys is_a_key = leaf_keys_leaf

array_no_key : ARRAY ≡ KEY → ⊥
array_no_key h = omega arith

object_no_key : OBJECT ≡ KEY → ⊥
object_no_key h = omega arith

mutual
  pub formed_leaf_keys : {t : Tree} → Formed t → LeafKeys t
  formed_leaf_keys (formed_word h k l) = leaf_keys_leaf
  formed_leaf_keys (formed_text h k) = leaf_keys_leaf
  formed_leaf_keys (formed_array x) = leaf_keys_node array_no_key (elements_leaf_keys x)
  formed_leaf_keys (formed_object x) = leaf_keys_node object_no_key (pairs_leaf_keys x)

  elements_leaf_keys : {c : ℕ} {ts : Forest} → Elements c ts → LeafKeysIn ts
  elements_leaf_keys no_element = leaf_keys_none
  elements_leaf_keys (element x y) = leaf_keys_more (formed_leaf_keys x) (elements_leaf_keys y)

  pairs_leaf_keys : {c : ℕ} {ts : Forest} → Pairs c ts → LeafKeysIn ts
  pairs_leaf_keys no_pair = leaf_keys_none
  pairs_leaf_keys (pair x y z) = leaf_keys_more (key_leaf_keys x) (leaf_keys_more (formed_leaf_keys y) (pairs_leaf_keys z))
