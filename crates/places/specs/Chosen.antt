-- THE KEYS THAT A ROOM TAKES of a list: half a room of them behind those passed by first, and half a room behind those passed by then. Assumes nothing.
use Rattle.std.specs.Prelude.{◌≡◌, ℕ, zero, suc, ◌+◌, ◌<◌, ◌≤◌, Bool, true, false, List, [], ◌∷◌, ◌++◌, take, drop, ◌==◌, nat_le, refl}
use Rattle.std.proofs.Common.{sym, ap, ◌∙◌, append-nil, arith, take-append-drop, leb-true, eq-eqb, ne_eqb}
use Rattle.std.proofs.Math.Seq.{take-nil, drop-nil}
use Rattle.std.proofs.lemmas.Bool.{lt-leb}
use Rattle.notation.specs.Class.{pick}
use Rattle.exact.specs.Class.{leb_yes}
use Rattle.language.specs.Tree.{count}
use Rattle.notes.specs.Flat.{Named}
use Rattle.notes.specs.Lie.{Keys, keys_more, keys_from}
use Rattle.repeats.specs.Flat.{In, in_here, in_later, Twice, twice_here, twice_later}

-- by a room for two halves of h keys that has c, passes w by before it takes the next, and g once half of it is full
unfoldable pub chosen : ℕ → ℕ → ℕ → ℕ → List Named → List Named
chosen h g w c [] = []
chosen h g (suc w) c (k ∷ ks) = chosen h g w c ks
chosen h g zero c (k ∷ ks) = pick (nat_le (suc c) (h + h)) (k ∷ chosen h g (pick (suc c == h) g 0) (suc c) ks) []

-- .. and how many it has no room for
unfoldable pub left_out : ℕ → ℕ → ℕ → ℕ → List Named → ℕ
left_out h g w c [] = 0
left_out h g (suc w) c (k ∷ ks) = left_out h g w c ks
left_out h g zero c (k ∷ ks) = pick (nat_le (suc c) (h + h)) (left_out h g (pick (suc c == h) g 0) (suc c) ks) (suc (left_out h g zero c ks))

-- ---- they are some of the list, in its order

pub data Some : List Named → List Named → Type 0 where
  some_none : Some [] []
  some_take : {k : Named} {xs ys : List Named} → Some xs ys → Some (k ∷ xs) (k ∷ ys)
  some_pass : {k : Named} {xs ys : List Named} → Some xs ys → Some xs (k ∷ ys)

some_empty : (ys : List Named) → Some [] ys
some_empty [] = some_none
some_empty (k ∷ ys) = some_pass (some_empty ys)

pub chosen_some : (h g w c : ℕ) (ks : List Named) → Some (chosen h g w c ks) ks
unfolding chosen
chosen_some h g w c [] = some_none
chosen_some h g (suc w) c (k ∷ ks) = some_pass (chosen_some h g w c ks)
chosen_some h g zero c (k ∷ ks) = by (nat_le (suc c) (h + h)) (chosen_some h g (pick (suc c == h) g 0) (suc c) ks)
  where
    by : (b : Bool) → Some (chosen h g (pick (suc c == h) g 0) (suc c) ks) ks → Some (pick b (k ∷ chosen h g (pick (suc c == h) g 0) (suc c) ks) []) (k ∷ ks)
    by true x = some_take x
    by false x = some_empty (k ∷ ks)

pub some_in : {q a : ℕ} {s : List ℕ} {xs ys : List Named} → Some xs ys → In q a s xs → In q a s ys
some_in {q = q} {a = a} {s = s} some_none i = elim i [ ]
some_in (some_take x) in_here = in_here
some_in (some_take x) (in_later i) = in_later (some_in x i)
some_in (some_pass x) i = in_later (some_in x i)

pub some_twice : {p : ℕ} {xs ys : List Named} → Some xs ys → Twice p xs → Twice p ys
some_twice {p = p} some_none t = elim t [ ]
some_twice (some_take x) (twice_here i) = twice_here (some_in x i)
some_twice (some_take x) (twice_later t) = twice_later (some_twice x t)
some_twice (some_pass x) t = twice_later (some_twice x t)

pub some_keys : {doc : List ℕ} {a e : ℕ} {xs ys : List Named} → Some xs ys → Keys doc a ys e → Keys doc a xs e
some_keys some_none k = k
some_keys (some_take x) (keys_more l k z) = keys_more l k (some_keys x z)
some_keys (some_pass x) (keys_more l k z) = some_keys x (keys_from (omega (arith, l, k.ahead)) z)

pub some_count : {xs ys : List Named} → Some xs ys → count xs ≤ count ys
some_count some_none = omega arith
some_count (some_take x) = let h = some_count x in omega arith
some_count (some_pass x) = let h = some_count x in omega arith

-- ---- which they are

-- no more than there is room for
pub chosen_few : (h g w c : ℕ) (ks : List Named) → c ≤ h + h → c + count (chosen h g w c ks) ≤ h + h
unfolding chosen
chosen_few h g w c [] l = omega arith
chosen_few h g (suc w) c (k ∷ ks) l = chosen_few h g w c ks l
chosen_few h g zero c (k ∷ ks) l = by (nat_le (suc c) (h + h)) refl (λ m. chosen_few h g (pick (suc c == h) g 0) (suc c) ks m)
  where
    by : (b : Bool) → nat_le (suc c) (h + h) ≡ b → (suc c ≤ h + h → suc c + count (chosen h g (pick (suc c == h) g 0) (suc c) ks) ≤ h + h)
        → c + count (pick b (k ∷ chosen h g (pick (suc c == h) g 0) (suc c) ks) []) ≤ h + h
    by true e f = let y = f (leb-true (suc c) (h + h) e) in omega arith
    by false e f = omega arith

-- none where it is full
pub chosen_full : (h g c : ℕ) (ks : List Named) → h + h ≤ c → chosen h g zero c ks ≡ []
unfolding chosen
chosen_full h g c [] l = refl
chosen_full h g c (k ∷ ks) l = rw (lt-leb (suc c) (h + h) (omega arith)) refl

-- the first half is full: so many that follow, up to the room's end
late : (h g w c r : ℕ) (ks : List Named) → h ≤ c → c + r ≡ h + h → (chosen h g w c ks ≡ take r (drop w ks)) × (left_out h g w c ks ≡ count (drop r (drop w ks)))
unfolding chosen left_out
late h g w c r [] l e = rw (drop-nil {A = Named} w, take-nil {A = Named} r, drop-nil {A = Named} r) (refl, refl)
late h g (suc w) c r (k ∷ ks) l e = late h g w c r ks l e
late h g zero c zero (k ∷ ks) l e =
    let y = late h g zero c zero ks l e in
    rw (lt-leb (suc c) (h + h) (omega arith)) (refl, ap suc y.1)
late h g zero c (suc r) (k ∷ ks) l e =
    let y = late h g zero (suc c) r ks (omega arith) (omega arith) in
    rw (leb_yes (suc c) (h + h) (omega arith), ne_eqb (suc c) h (λ z. omega arith)) (ap (λ (x : List Named). k ∷ x) y.0, y.1)

-- r are missing in the first half: so many, and half a room behind those passed by
early : (h g w c r : ℕ) (ks : List Named) → c + suc r ≡ h
    → (chosen h g w c ks ≡ take (suc r) (drop w ks) ++ take h (drop (w + suc r + g) ks)) × (left_out h g w c ks ≡ count (drop h (drop (w + suc r + g) ks)))
unfolding chosen left_out
early h g w c r [] e = rw (drop-nil {A = Named} w, drop-nil {A = Named} (w + suc r + g), take-nil {A = Named} h, drop-nil {A = Named} h) (refl, refl)
early h g (suc w) c r (k ∷ ks) e =
    let z : suc w + suc r + g ≡ suc (w + suc r + g) = omega arith in
    rw z (early h g w c r ks e)
early h g zero c zero (k ∷ ks) e =
    let y = late h g g (suc c) h ks (omega arith) (omega arith) in
    let z : zero + 1 + g ≡ suc g = omega arith in
    rw (leb_yes (suc c) (h + h) (omega arith), eq-eqb (suc c) h (omega arith), z) (ap (λ (x : List Named). k ∷ x) y.0, y.1)
early h g zero c (suc r) (k ∷ ks) e =
    let y = early h g zero (suc c) r ks (omega arith) in
    let z : zero + suc (suc r) + g ≡ suc (zero + suc r + g) = omega arith in
    rw (leb_yes (suc c) (h + h) (omega arith), ne_eqb (suc c) h (λ z. omega arith), z) (ap (λ (x : List Named). k ∷ x) y.0, y.1)

-- HALF A ROOM OF KEYS FROM THE i-th ON, AND HALF A ROOM FROM THE j-th ON
abbrev pub windows : ℕ → ℕ → ℕ → List Named → List Named
windows h i j ks = take h (drop i ks) ++ take h (drop j ks)

module _ (h i j g : ℕ) (ks : List Named) (l : 0 < h) (e : i + h + g ≡ j) where
  both : (r : ℕ) → suc r ≡ h → (chosen h g i 0 ks ≡ windows h i j ks) × (left_out h g i 0 ks ≡ count (drop h (drop j ks)))
  both r z =
      let y = early h g i 0 r ks (omega arith) in
      let f : i + suc r + g ≡ j = omega arith in
      rw (z, e) at y

  pub chosen_windows : chosen h g i 0 ks ≡ windows h i j ks
  chosen_windows = by h refl
    where
      by : (n : ℕ) → n ≡ h → chosen h g i 0 ks ≡ windows h i j ks
      by zero z = absurd (omega arith)
      by (suc r) z = (both r z).0

  pub left_windows : left_out h g i 0 ks ≡ count (drop h (drop j ks))
  left_windows = by h refl
    where
      by : (n : ℕ) → n ≡ h → left_out h g i 0 ks ≡ count (drop h (drop j ks))
      by zero z = absurd (omega arith)
      by (suc r) z = (both r z).1

pub count_none : (ks : List Named) → count ks ≡ 0 → ks ≡ []
count_none [] e = refl
count_none (k ∷ ks) e = absurd (omega arith)

-- where none is left out behind the second half, they are all from the i-th on
pub windows_all : (h : ℕ) (ks : List Named) → count (drop h (drop h ks)) ≡ 0 → windows h 0 h ks ≡ ks
windows_all h ks e =
    let y = take-append-drop h (drop h ks) in
    let n = count_none (drop h (drop h ks)) e in
    let z : take h (drop h ks) ≡ drop h ks = sym (append-nil (take h (drop h ks))) ∙ (rw n at y) in
    rw z (take-append-drop h ks)
