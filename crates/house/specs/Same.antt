-- ALIKE childwise: a tree is like another where its children are. Assumes nothing.
use Rattle.std.specs.Prelude.{◌≡◌, refl, List, [], ◌∷◌, ℕ, suc}
use Rattle.std.proofs.Common.{ap, ap₂}
use Rattle.language.specs.Kind.{ARRAY, OBJECT}
use Rattle.language.specs.Tree.{Decoded, unescaped, Tree, leaf, node, Forest, none, more, forest, count, Field, field, fields, Entry, entry, entries, block_array, block_object}
use Rattle.language.specs.Alike.{unspan, unspans, Alike}

-- a scalar or a key with this span whose text has these bytes
pub data Leaf (kind a e : ℕ) (s : List ℕ) : Tree → Type 0 where
  leaf_of : {d : Decoded} → d.bytes ≡ s → Leaf kind a e s (leaf kind a e d)

-- u is like t; m children us are like n children ts
pub record Like (t u : Tree) : Type 0 where
  pub alike : Alike u t

pub record Same (n : ℕ) (ts : Forest) (m : ℕ) (us : Forest) : Type 0 where
  pub number : m ≡ n
  pub trees : unspans us ≡ unspans ts

pub leaf_like : {kind a e b f : ℕ} {d : Decoded} {u : Tree} → Leaf kind a e d.bytes u → Like (leaf kind b f d) u
unfolding unspan
leaf_like {kind} (leaf_of g) = record { alike = ap (λ (s : List ℕ). leaf kind 0 0 (unescaped s)) g }

pub same_node : {k a e b f n m : ℕ} {ts us : Forest} → Same n ts m us → Like (node k b f n ts) (node k a e m us)
unfolding unspan
same_node {k} s = record { alike = ap₂ (node k 0 0) s.number s.trees }

pub same_none : Same 0 none 0 none
same_none = record { number = refl; trees = refl }

pub same_more : {n m : ℕ} {t u : Tree} {ts us : Forest} → Like t u → Same n ts m us → Same (suc n) (more t ts) (suc m) (more u us)
unfolding unspans
same_more a s = record { number = ap suc s.number; trees = ap₂ more a.alike s.trees }

-- a property or pair like this key and this value
pub data LikeField (k v : Tree) : Field → Type 0 where
  like_field : {j u : Tree} → Like k j → Like v u → LikeField k v (field j u)

pub same_field : {n : ℕ} {k v : Tree} {ts : Forest} (f : Field) (fs : List Field) → LikeField k v f → Same n ts (count fs) (forest (fields fs))
    → Same (suc n) (more k (more v ts)) (count (f ∷ fs)) (forest (fields (f ∷ fs)))
unfolding unspans
same_field (field j u) fs (like_field b a) s = record { number = ap suc s.number; trees = ap₂ more b.alike (ap₂ more a.alike s.trees) }

-- an entry of a block array like this item
pub data LikeEntry (t : Tree) : Entry → Type 0 where
  like_entry : {d : ℕ} {u : Tree} → Like t u → LikeEntry t (entry d u)

pub same_entry : {n : ℕ} {t : Tree} {ts : Forest} (x : Entry) (xs : List Entry) → LikeEntry t x → Same n ts (count (entries xs)) (forest (entries xs))
    → Same (suc n) (more t ts) (count (entries (x ∷ xs))) (forest (entries (x ∷ xs)))
same_entry (entry d u) xs (like_entry a) s = same_more a s

-- blocks, from their entries and properties
pub array_like : {a e n : ℕ} {ts : Forest} (xs : List Entry) → Same n ts (count (entries xs)) (forest (entries xs)) → Like (node ARRAY a e n ts) (block_array xs)
array_like [] s = same_node s
array_like (entry d v ∷ xs) s = same_node s

pub object_like : {a e n : ℕ} {ts : Forest} (fs : List Field) → Same n ts (count fs) (forest (fields fs)) → Like (node OBJECT a e n ts) (block_object fs)
object_like [] s = same_node s
object_like (field k v ∷ fs) s = same_node s
