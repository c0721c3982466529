-- THE ORDER OF VERSIONS is total up to trailing zeros: total, transitive, never both ways; level versions differ in trailing zeros alone. Assumes nothing.
use mathlib.Core.Path.{◌≡◌, refl, sym, ap, subst, ◌∙◌}
use Rattle.std.specs.Prelude.{◌↔◌, ◌⊎◌, Bool, true, false, List, [], ◌∷◌, ◌++◌, ℕ, zero, suc, ◌+◌, ◌≤◌, ◌<◌, length, get_or, ltb}
use Rattle.std.proofs.Common.{inl, inr, arith, ltb-true, ltb-false}
use Rattle.upgrade.specs.Version.{place, Higher, Above}

-- one of two numbers is greater, or they are equal
data Stand (a b : ℕ) : Type 0 where
  less : a < b → Stand a b
  same : a ≡ b → Stand a b
  greater : b < a → Stand a b

stand : (a b : ℕ) → Stand a b
stand a b = go (ltb a b) (ltb b a) refl refl
  where
    go : (x y : Bool) → ltb a b ≡ x → ltb b a ≡ y → Stand a b
    go true y p q = less (ltb-true a b p)
    go false true p q = greater (ltb-true b a q)
    go false false p q = let h = ltb-false a b p in let k = ltb-false b a q in same (omega arith)

-- all places below n are equal
abbrev pub Equal : (ℕ → ℕ) → (ℕ → ℕ) → ℕ → Type 0
Equal v w n = (i : ℕ) → i < n → v i ≡ w i

-- .. and one more
pub equal_more : {v w : ℕ → ℕ} {n : ℕ} → Equal v w n → v n ≡ w n → Equal v w (suc n)
equal_more {v} {w} {n} f e i l = go (stand i n)
  where
    go : Stand i n → v i ≡ w i
    go (less h) = f i h
    go (same h) = subst (λ (k : ℕ). v k ≡ w k) (sym h) e
    go (greater h) = absurd (omega arith)

-- THE FIRST DIFFERENCE below n
pub data First (v w : ℕ → ℕ) (n : ℕ) : Type 0 where
  higher : Higher v w → First v w n
  lower : Higher w v → First v w n
  equal : Equal v w n → First v w n

flip : {v w : ℕ → ℕ} {n : ℕ} → Equal v w n → Equal w v n
flip f i l = sym (f i l)

pub first : (v w : ℕ → ℕ) (n : ℕ) → First v w n
first v w zero = equal (λ i l. absurd (omega arith))
first v w (suc n) = go (first v w n) (stand (v n) (w n))
  where
    go : First v w n → Stand (v n) (w n) → First v w (suc n)
    go (higher h) s = higher h
    go (lower h) s = lower h
    go (equal f) (less h) = lower (record { at = n; equal = flip f; greater = h })
    go (equal f) (same h) = equal (equal_more f h)
    go (equal f) (greater h) = higher (record { at = n; equal = f; greater = h })

-- never both ways
pub higher_once : {v w : ℕ → ℕ} → Higher v w → Higher w v → ⊥
higher_once {v} {w} h k = go (stand h.at k.at)
  where
    go : Stand h.at k.at → ⊥
    go (less l) = let e = k.equal h.at l in omega (arith, h.greater)
    go (same l) = let g : v h.at < w h.at = subst (λ (i : ℕ). v i < w i) (sym l) k.greater in omega (arith, h.greater)
    go (greater l) = let e = h.equal k.at l in omega (arith, k.greater)

pub equal_not_higher : {v w : ℕ → ℕ} → ((i : ℕ) → v i ≡ w i) → Higher v w → ⊥
equal_not_higher f h = let e = f h.at in omega (arith, h.greater)

pub higher_on : {u v w : ℕ → ℕ} → Higher u v → Higher v w → Higher u w
higher_on {u} {v} {w} h k = go (stand h.at k.at)
  where
    both : (n : ℕ) → n ≤ h.at → n ≤ k.at → Equal u w n
    both n l m i q = h.equal i (omega arith) ∙ k.equal i (omega arith)

    go : Stand h.at k.at → Higher u w
    go (less l) =
        let e = k.equal h.at l in
        record { at = h.at; equal = both h.at (omega arith) (omega arith); greater = omega (arith, h.greater) }
    go (same l) =
        let g : w h.at < v h.at = subst (λ (i : ℕ). w i < v i) (sym l) k.greater in
        record { at = h.at; equal = both h.at (omega arith) (omega arith); greater = omega (arith, h.greater) }
    go (greater l) =
        let e = h.equal k.at l in
        record { at = k.at; equal = both k.at (omega arith) (omega arith); greater = omega (arith, k.greater) }

-- ---- versions

-- all places are equal: "so `[10]` equals `[10, 0]`"
abbrev pub Level : List ℕ → List ℕ → Type 0
Level v w = (i : ℕ) → place v i ≡ place w i

pub place_past : (ns : List ℕ) (i : ℕ) → length ns ≤ i → place ns i ≡ 0
place_past [] i l = refl
place_past (n ∷ ns) zero l = absurd (omega arith)
place_past (n ∷ ns) (suc i) l = place_past ns i (omega arith)

-- so many zeros
pub zeros : ℕ → List ℕ
zeros zero = []
zeros (suc n) = 0 ∷ zeros n

-- one is the other with trailing zeros
pub data Trailing (v w : List ℕ) : Type 0 where
  on_right : (n : ℕ) → w ≡ v ++ zeros n → Trailing v w
  on_left : (n : ℕ) → v ≡ w ++ zeros n → Trailing v w

all_zeros : (w : List ℕ) → ((i : ℕ) → place w i ≡ 0) → w ≡ zeros (length w)
unfolding zeros
all_zeros [] f = refl
all_zeros (n ∷ w) f = mathlib.Core.Path.ap₂ (λ (m : ℕ) (l : List ℕ). m ∷ l) (f 0) (all_zeros w (λ i. f (suc i)))

pub level_trailing : (v w : List ℕ) → Level v w → Trailing v w
level_trailing [] w f = on_right (length w) (all_zeros w (λ i. sym (f i)))
level_trailing (n ∷ v) [] f = on_left (length (n ∷ v)) (all_zeros (n ∷ v) f)
level_trailing (n ∷ v) (m ∷ w) f = go (f 0) (level_trailing v w (λ i. f (suc i)))
  where
    go : n ≡ m → Trailing v w → Trailing (n ∷ v) (m ∷ w)
    go e (on_right k h) = on_right k (rw (h, e) refl)
    go e (on_left k h) = on_left k (rw (h, e) refl)

zero_places : (n i : ℕ) → place (zeros n) i ≡ 0
unfolding zeros
zero_places zero i = refl
zero_places (suc n) zero = refl
zero_places (suc n) (suc i) = zero_places n i

pub zeros_level : (v : List ℕ) (n : ℕ) → Level v (v ++ zeros n)
zeros_level [] n i = sym (zero_places n i)
zeros_level (m ∷ v) n zero = refl
zeros_level (m ∷ v) n (suc i) = zeros_level v n i

-- THE ORDER
pub record VersionOrder : Type 0 where
  pub total : (v w : List ℕ) → Above v w ⊎ (Level v w ⊎ Above w v)
  pub transitive : (u v w : List ℕ) → Above u v → Above v w → Above u w
  pub one_way : (v w : List ℕ) → Above v w → Above w v → ⊥
  -- up to trailing zeros: neither is above the other exactly if they are level, and that is if they differ in trailing zeros alone
  pub antisymmetric : (v w : List ℕ) → (Above v w → ⊥) → (Above w v → ⊥) → Level v w
  pub level : (v w : List ℕ) → Level v w → (Above v w → ⊥) × (Above w v → ⊥)
  pub trailing : (v w : List ℕ) → Level v w ↔ Trailing v w
  pub ten : Level (10 ∷ []) (10 ∷ 0 ∷ [])

pub total : (v w : List ℕ) → Above v w ⊎ (Level v w ⊎ Above w v)
total v w = go (first (place v) (place w) (length v + length w))
  where
    beyond : Equal (place v) (place w) (length v + length w) → (i : ℕ) → Stand i (length v + length w) → place v i ≡ place w i
    beyond f i (less l) = f i l
    beyond f i (same l) = place_past v i (omega arith) ∙ sym (place_past w i (omega arith))
    beyond f i (greater l) = place_past v i (omega arith) ∙ sym (place_past w i (omega arith))

    go : First (place v) (place w) (length v + length w) → Above v w ⊎ (Level v w ⊎ Above w v)
    go (higher h) = inl h
    go (lower h) = inr (inr h)
    go (equal f) = inr (inl (λ i. beyond f i (stand i (length v + length w))))

neither_level : (v w : List ℕ) → (Above v w → ⊥) → (Above w v → ⊥) → Above v w ⊎ (Level v w ⊎ Above w v) → Level v w
neither_level v w f g (inl h) = absurd (f h)
neither_level v w f g (inr (inl h)) = h
neither_level v w f g (inr (inr h)) = absurd (g h)

level_neither : (v w : List ℕ) → Level v w → (Above v w → ⊥) × (Above w v → ⊥)
level_neither v w f = (equal_not_higher f, equal_not_higher (λ i. sym (f i)))

trailing_level : (v w : List ℕ) → Trailing v w → Level v w
trailing_level v w (on_right n h) = rw h (zeros_level v n)
trailing_level v w (on_left n h) = rw h (λ i. sym (zeros_level w n i))

pub version_order : VersionOrder
unfolding zeros
version_order =
    record {
      total = total;
      transitive = λ u v w h k. higher_on h k;
      one_way = λ v w h k. higher_once h k;
      antisymmetric = λ v w f g. neither_level v w f g (total v w);
      level = level_neither;
      trailing = λ v w. (level_trailing v w, trailing_level v w);
      ten = zeros_level (10 ∷ []) 1;
    }
