-- KEYS NAMED TWICE in the list of the keys of a tree, and the rows of the objects that they belong to. Assumes nothing.
use Rattle.std.specs.Prelude.{◌≡◌, refl, List, [], ◌∷◌, ◌++◌, ◌⊎◌, Bool, true, false, ℕ, suc, ◌+◌, ◌≤◌, ◌<◌, eqb}
use Rattle.std.proofs.Common.{inl, inr, arith, eqb-true}
use Rattle.notation.specs.Class.{pick}
use Rattle.language.specs.Kind.{KEY}
use Rattle.language.specs.Tree.{Tree, leaf, node, Forest, none, more, size, sizes}
pub use Rattle.notes.specs.Flat.{Named, named}
unfoldable pub use Rattle.notes.specs.Flat.{flat, flats}

-- a key of the object q with the text s starts at a
pub data In (q a : ℕ) (s : List ℕ) : List Named → Type 0 where
  in_here : {ns : List Named} → In q a s (named q a s ∷ ns)
  in_later : {n : Named} {ns : List Named} → In q a s ns → In q a s (n ∷ ns)

-- the key that starts at p has the object and the text of an earlier one
pub data Twice (p : ℕ) : List Named → Type 0 where
  twice_here : {q a : ℕ} {s : List ℕ} {ns : List Named} → In q p s ns → Twice p (named q a s ∷ ns)
  twice_later : {n : Named} {ns : List Named} → Twice p ns → Twice p (n ∷ ns)

-- ---- lists put together

pub in_left : {q a : ℕ} {s : List ℕ} (xs ys : List Named) → In q a s xs → In q a s (xs ++ ys)
in_left _ ys in_here = in_here
in_left (n ∷ xs) ys (in_later x) = in_later (in_left xs ys x)

pub in_right : {q a : ℕ} {s : List ℕ} (xs ys : List Named) → In q a s ys → In q a s (xs ++ ys)
in_right [] ys x = x
in_right (n ∷ xs) ys x = in_later (in_right xs ys x)

pub in_split : {q a : ℕ} {s : List ℕ} (xs ys : List Named) → In q a s (xs ++ ys) → In q a s xs ⊎ In q a s ys
in_split [] ys x = inr x
in_split (n ∷ xs) ys in_here = inl in_here
in_split {q} {a} {s} (n ∷ xs) ys (in_later x) = go (in_split xs ys x)
  where
    go : In q a s xs ⊎ In q a s ys → In q a s (n ∷ xs) ⊎ In q a s ys
    go (inl y) = inl (in_later y)
    go (inr y) = inr y

pub twice_left : {p : ℕ} (xs ys : List Named) → Twice p xs → Twice p (xs ++ ys)
twice_left {p = p} [] ys x' = elim x' [ ]
twice_left (n ∷ xs) ys (twice_here x) = twice_here (in_left xs ys x)
twice_left (n ∷ xs) ys (twice_later x) = twice_later (twice_left xs ys x)

pub twice_right : {p : ℕ} (xs ys : List Named) → Twice p ys → Twice p (xs ++ ys)
twice_right [] ys x = x
twice_right (n ∷ xs) ys x = twice_later (twice_right xs ys x)

-- a key twice in two lists: in one of them, or once in each
pub data Split (p : ℕ) (xs ys : List Named) : Type 0 where
  in_first : Twice p xs → Split p xs ys
  in_second : Twice p ys → Split p xs ys
  across : (q a : ℕ) (s : List ℕ) → In q a s xs → In q p s ys → Split p xs ys

pub twice_split : {p : ℕ} (xs ys : List Named) → Twice p (xs ++ ys) → Split p xs ys
twice_split [] ys x = in_second x
twice_split {p} (named q a s ∷ xs) ys (twice_here x) = go (in_split xs ys x)
  where
    go : In q p s xs ⊎ In q p s ys → Split p (named q a s ∷ xs) ys
    go (inl y) = in_first (twice_here y)
    go (inr y) = across q a s in_here y
twice_split {p} (n ∷ xs) ys (twice_later x) = go (twice_split xs ys x)
  where
    go : Split p xs ys → Split p (n ∷ xs) ys
    go (in_first y) = in_first (twice_later y)
    go (in_second y) = in_second y
    go (across q a s y z) = across q a s (in_later y) z

-- ---- the rows of the objects: a leaf's key has the parent for its object, what is below a node has rows of its own

pub record Below (r n q : ℕ) : Type 0 where
  pub least : r ≤ q
  pub most : q < r + n

pub leaf_object : (k p a : ℕ) (s : List ℕ) {q b : ℕ} {u : List ℕ} (c : Bool) → eqb k KEY ≡ c → In q b u (pick c (named p a s ∷ []) [])
    → (k ≡ KEY) × (q ≡ p) × (b ≡ a) × (u ≡ s)
leaf_object k p a s true e in_here = (eqb-true k KEY e, refl, refl, refl)
leaf_object k p a s true e (in_later x) = elim x [ ]
leaf_object k p a s false e x = elim x [ ]

wider : {q p r m n : ℕ} → m ≤ n → (q ≡ p) ⊎ Below r m q → (q ≡ p) ⊎ Below r n q
wider h (inl e) = inl e
wider h (inr b) = inr (record { least = b.least; most = omega (arith, b.most) })

further : {q p : ℕ} (r m n : ℕ) → (q ≡ p) ⊎ Below (r + m) n q → (q ≡ p) ⊎ Below r (m + n) q
further r m n (inl e) = inl e
further r m n (inr b) = inr (record { least = omega (arith, b.least); most = omega (arith, b.most) })

pub either : {A B C : Type 0} → (A → C) → (B → C) → A ⊎ B → C
either f g (inl x) = f x
either f g (inr x) = g x

mutual
  unfolding flat size

  -- the objects of a forest's keys: its parent, or a row of its own
  pub objects : (r p : ℕ) (ts : Forest) {q a : ℕ} {s : List ℕ} → In q a s (flats r p ts) → (q ≡ p) ⊎ Below r (sizes ts) q
  objects r p none x = elim x [ ]
  objects r p (more t ts) x =
      either
      (λ y. wider {n = size t + sizes ts} (omega arith) (object r p t y))
      (λ y. further r (size t) (sizes ts) (objects (r + size t) p ts y))
      (in_split (flat r p t) (flats (r + size t) p ts) x)

  pub object : (r p : ℕ) (t : Tree) {q a : ℕ} {s : List ℕ} → In q a s (flat r p t) → (q ≡ p) ⊎ Below r (size t) q
  object r p (leaf k a e s) x = inl (leaf_object k p a s.bytes (eqb k KEY) refl x).1
  object r p (node k a e c ts) x = inr (within (objects (r + 1) r ts x))
    where
      within : {q : ℕ} → (q ≡ r) ⊎ Below (r + 1) (sizes ts) q → Below r (suc (sizes ts)) q
      within (inl h) = record { least = omega arith; most = omega arith }
      within (inr b) = record { least = omega (arith, b.least); most = omega (arith, b.most) }
