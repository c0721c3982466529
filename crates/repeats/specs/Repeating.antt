-- A TREE REPEATS A KEY exactly if the list of its keys names one twice: `repeats_twice` and `twice_repeats`. Assumes nothing.
use Rattle.std.specs.Prelude.{◌≡◌, refl, List, [], ◌∷◌, ◌⊎◌, Bool, true, false, ℕ, suc, ◌+◌, ◌<◌, eqb}
use Rattle.std.proofs.Common.{sym, subst, inl, inr, arith}
use Rattle.notation.specs.Class.{pick}
use Rattle.language.specs.Kind.{KEY}
use Rattle.language.specs.Tree.{Decoded, Tree, leaf, node, Forest, none, more, size, sizes, Has, has_here, has_later, Repeats, inside, Repeated, again, below, beside}
use Rattle.repeats.specs.Flat.{named, flat, flats, In, in_here, Twice, twice_here, twice_later, in_right, in_split, twice_left, twice_right, Split, in_first, in_second, across, twice_split, Below, leaf_object, either, object, objects}

-- ---- from the tree to the list

has_in : (r p : ℕ) {s : List ℕ} {a : ℕ} (ts : Forest) → Has s a ts → In p a s (flats r p ts)
unfolding flat
has_in r p {s = s} {a = a} none x' = elim x' [ ]
has_in r p (more _ ts) has_here = in_here
has_in r p (more t ts) (has_later x) = in_right (flat r p t) (flats (r + size t) p ts) (has_in (r + size t) p ts x)

mutual
  unfolding flat

  pub repeats_twice : (r p : ℕ) {i : ℕ} (t : Tree) → Repeats i t → Twice i (flat r p t)
  repeats_twice r p {i = i} (leaf _ _ _ _) x6 = elim x6 [ ]
  repeats_twice r p (node k a e c ts) (inside x) = repeated_twice (r + 1) r ts x

  pub repeated_twice : (r p : ℕ) {i : ℕ} (ts : Forest) → Repeated i ts → Twice i (flats r p ts)
  repeated_twice r p {i = i} none x6 = elim x6 [ ]
  repeated_twice r p (more _ ts) (again x) = twice_here (has_in _ p ts x)
  repeated_twice r p (more t ts) (below x) = twice_left (flat r p t) (flats (r + size t) p ts) (repeats_twice r p t x)
  repeated_twice r p (more t ts) (beside x) = twice_right (flat r p t) (flats (r + size t) p ts) (repeated_twice (r + size t) p ts x)

-- ---- and back, where the parent's row is before all

-- a key of the parent is a child
in_has : (r p : ℕ) {s : List ℕ} {a : ℕ} (ts : Forest) → p < r → In p a s (flats r p ts) → Has s a ts
unfolding flat
in_has r p none l x = elim x [ ]
in_has r p {s} {a} (more t ts) l x =
    either (λ y. child t y) (λ y. has_later (in_has (r + size t) p ts (omega arith) y)) (in_split (flat r p t) (flats (r + size t) p ts) x)
  where
    own : (k b e : ℕ) (u : Decoded) → (k ≡ KEY) × (p ≡ p) × (a ≡ b) × (s ≡ u.bytes) → Has s a (more (leaf k b e u) ts)
    own k b e u h =
        subst (λ (i : ℕ). Has s a (more (leaf i b e u) ts)) (sym h.0)
        (subst (λ (i : ℕ). Has s a (more (leaf KEY i e u) ts)) h.2 (subst (λ (v : List ℕ). Has s a (more (leaf KEY a e (record { bytes = v; escapes = u.escapes })) ts)) h.3 has_here))

    child : (t : Tree) → In p a s (flat r p t) → Has s a (more t ts)
    child (leaf k b e u) y = own k b e u (leaf_object k p b u.bytes (eqb k KEY) refl y)
    child (node k b e c us) y = absurd (no (objects (r + 1) r us y))
      where
        no : (p ≡ r) ⊎ Below (r + 1) (sizes us) p → ⊥
        no (inl h) = omega arith
        no (inr h) = omega (arith, h.least)

-- a key of a tree, and one of the same object and text behind the tree
meet : (r p : ℕ) {q a i : ℕ} {s : List ℕ} (t : Tree) (ts : Forest) → p < r → In q a s (flat r p t) → In q i s (flats (r + size t) p ts) → Repeated i (more t ts)
unfolding flat size
meet r p {q} {a} {i} {s} (leaf k b e u) ts l x y = own (leaf_object k p b u.bytes (eqb k KEY) refl x)
  where
    own : (k ≡ KEY) × (q ≡ p) × (a ≡ b) × (s ≡ u.bytes) → Repeated i (more (leaf k b e u) ts)
    own h =
        let z : Has u.bytes i ts = in_has (r + 1) p ts (omega arith) (rw (h.1, h.3) at y) in
        subst (λ (j : ℕ). Repeated i (more (leaf j b e u) ts)) (sym h.0) (again z)
meet r p {q} {a} {i} {s} (node k b e c us) ts l x y = absurd (no (object r p (node k b e c us) x) (objects (r + suc (sizes us)) p ts y))
  where
    no : (q ≡ p) ⊎ Below r (suc (sizes us)) q → (q ≡ p) ⊎ Below (r + suc (sizes us)) (sizes ts) q → ⊥
    no (inl h) z = under (objects (r + 1) r us x)
      where
        under : (q ≡ r) ⊎ Below (r + 1) (sizes us) q → ⊥
        under (inl g) = omega arith
        under (inr g) = omega (arith, g.least)
    no (inr h) (inl g) = omega (arith, h.least)
    no (inr h) (inr g) = omega (arith, h.most, g.least)

one_key : {i : ℕ} (k p a : ℕ) (s : List ℕ) (c : Bool) → Twice i (pick c (named p a s ∷ []) []) → ⊥
one_key k p a s true (twice_here x) = elim x [ ]
one_key k p a s true (twice_later x) = elim x [ ]
one_key k p a s false x = elim x [ ]

mutual
  unfolding flat

  pub twice_repeats : (r p : ℕ) {i : ℕ} (t : Tree) → p < r + 1 → Twice i (flat r p t) → Repeats i t
  twice_repeats r p (leaf k a e s) l x = absurd (one_key k p a s.bytes (eqb k KEY) x)
  twice_repeats r p (node k a e c ts) l x = inside (twice_repeated (r + 1) r ts (omega arith) x)

  pub twice_repeated : (r p : ℕ) {i : ℕ} (ts : Forest) → p < r → Twice i (flats r p ts) → Repeated i ts
  twice_repeated r p none l x = elim x [ ]
  twice_repeated r p {i} (more t ts) l x =
      by
      (λ y. below (twice_repeats r p t (omega arith) y))
      (λ y. beside (twice_repeated (r + size t) p ts (omega arith) y))
      (twice_split (flat r p t) (flats (r + size t) p ts) x)
    where
      by : (Twice i (flat r p t) → Repeated i (more t ts)) → (Twice i (flats (r + size t) p ts) → Repeated i (more t ts)) → Split i (flat r p t) (flats (r + size t) p ts)
          → Repeated i (more t ts)
      by f g (in_first y) = f y
      by f g (in_second y) = g y
      by f g (across q a s y z) = meet r p t ts l y z
