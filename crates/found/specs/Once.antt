-- WITHOUT REPEATED KEYS no two pairs of one object have the same key (01, Numbers of refusal, REPEAT): so the value of a key is one. Assumes nothing.
use Rattle.std.specs.Prelude.{◌≡◌, refl, List, ◌∷◌, ◌⊎◌, ℕ, ◌+◌}
use Rattle.std.proofs.Common.{sym, subst, inl, inr}
use Rattle.language.specs.Kind.{KEY}
use Rattle.language.specs.Tree.{Tree, leaf, Forest, more, Has, has_here, has_later, Repeats, inside, Repeated, again, below, beside}
use Rattle.found.specs.Objects.{RowOf, own, within, RowAmong, in_first, in_further, Pair, pair, Pairs, no_pair, one_pair, ObjectAt, object_at, Holds, held, held_later}

-- the pairs that have a key have one value, in one row
pub record Once (fs : List Pair) : Type 0 where
  pub row : {s : List ℕ} {i j : ℕ} {u v : Tree} → Holds s i u fs → Holds s j v fs → i ≡ j
  pub value : {s : List ℕ} {i j : ℕ} {u v : Tree} → Holds s i u fs → Holds s j v fs → u ≡ v

-- what is repeated in a part of a tree is repeated in the tree
mutual
  pub repeats_up : {p r b : ℕ} {u t : Tree} → RowOf r u b t → Repeats p u → Repeats p t
  repeats_up own h = h
  repeats_up (within x) h = inside (repeated_up x h)

  pub repeated_up : {p r b : ℕ} {u : Tree} {ts : Forest} → RowAmong r u b ts → Repeats p u → Repeated p ts
  repeated_up (in_first x) h = below (repeats_up x h)
  repeated_up (in_further x) h = beside (repeated_up x h)

-- a key among the children
pub record Keyed (s : List ℕ) (ts : Forest) : Type 0 where
  pub start : ℕ
  pub has : Has s start ts

pub has_key : {r i : ℕ} {s : List ℕ} {v : Tree} {ts : Forest} {fs : List Pair} → Pairs r ts fs → Holds s i v fs → Keyed s ts
has_key {i = i} {s = s} {v = v} (no_pair {r = r}) x5 = elim x5 [ ]
has_key (one_pair {a = a} x) held = record { start = a; has = has_here }
has_key (one_pair x) (held_later h) = let z = has_key x h in record { start = z.start; has = has_later (has_later z.has) }

first_or : {s : List ℕ} {i : ℕ} {v : Tree} {f : Pair} {fs : List Pair} → Holds s i v (f ∷ fs) → (pair s i v ≡ f) ⊎ Holds s i v fs
first_or held = inl refl
first_or (held_later h) = inr h

-- two pairs that have a key are one, or a key is repeated
pub data Twins (i j : ℕ) (u v : Tree) (ts : Forest) : Type 0 where
  alike : i ≡ j → u ≡ v → Twins i j u v ts
  apart : (p : ℕ) → Repeated p ts → Twins i j u v ts

twins : {r i j : ℕ} {s : List ℕ} {u v : Tree} {ts : Forest} {fs : List Pair} → Pairs r ts fs → Holds s i u fs → Holds s j v fs → Twins i j u v ts
twins no_pair h g = elim h [ ]
twins {i = i} {j = j} {s = s} {u = u} {v = v} (one_pair {r = r} {a = a} {e = e} {s = k} {v = w} {ts = ts} {fs = fs} x) h g =
    by (first_or h) (first_or g) (λ y z. twins x y z)
  where
    later : Keyed s ts → k.bytes ≡ s → Twins i j u v (more (leaf KEY a e k) (more w ts))
    later z q = apart z.start (again (has_later (subst (λ (y : List ℕ). Has y z.start ts) (sym q) z.has)))

    by : (pair s i u ≡ pair k.bytes (r + 1) w) ⊎ Holds s i u fs → (pair s j v ≡ pair k.bytes (r + 1) w) ⊎ Holds s j v fs
        → (Holds s i u fs → Holds s j v fs → Twins i j u v ts) → Twins i j u v (more (leaf KEY a e k) (more w ts))
    by (inl p) (inl q) d = alike (cc) (cc)
    by (inl p) (inr z) d = later (has_key x z) (cc)
    by (inr y) (inl q) d = later (has_key x y) (cc)
    by (inr y) (inr z) d = beside_both (d y z)
      where
        beside_both : Twins i j u v ts → Twins i j u v (more (leaf KEY a e k) (more w ts))
        beside_both (alike p q) = alike p q
        beside_both (apart p z) = apart p (beside (beside z))

-- the pairs of an object, in a tree that repeats no key
pub once : {t : Tree} {r : ℕ} {fs : List Pair} → ((p : ℕ) → Repeats p t → ⊥) → ObjectAt t r fs → Once fs
once {fs = fs} n (object_at {ts = ts} x y) = record { row = λ h g. same_row (twins y h g); value = λ h g. same_value (twins y h g) }
  where
    same_row : {i j : ℕ} {u v : Tree} → Twins i j u v ts → i ≡ j
    same_row (alike p q) = p
    same_row (apart p z) = absurd (n p (repeats_up x (inside z)))

    same_value : {i j : ℕ} {u v : Tree} → Twins i j u v ts → u ≡ v
    same_value (alike p q) = q
    same_value (apart p z) = absurd (n p (repeats_up x (inside z)))
