-- THE BYTES THAT OPEN A CHARACTER are those of a scalar value in UTF-8, and a scalar value's bytes open one. Assumes nothing.
use Rattle.std.specs.Prelude.{◌≡◌, refl, Bool, true, false, List, [], ◌∷◌, ◌++◌, ◌⊎◌, ℕ, ◌+◌, ◌*◌, ◌-◌, ◌/◌, ◌%◌, ◌≤◌, ◌<◌, leb, length, get_or, drop}
use Rattle.std.proofs.Common.{◌∙◌, inl, inr, arith, leb-true, leb-false, le-leb}
use Rattle.std.proofs.lemmas.Bool.{lt-leb}
use Rattle.notation.specs.Class.{pick, or, ◌to◌, within}
use Rattle.exact.specs.Class.{or_of, range_of, clash, leb_yes, or_left, or_right, and_true}
use Rattle.language.specs.Characters.{utf8}
use Rattle.language.specs.Strings.{scalar}
use Rattle.shaped.specs.Shaped.{Scripted, scripted_none, scripted_more}
use Rattle.texts.specs.Opens.{Inner, Opens, one, two, three_below, three_above, four}

-- a character of n bytes begins the text
abbrev pub Begun : List ℕ → ℕ → Type 0
Begun s n = Opens (get_or s 0 0) (get_or s 1 0) (get_or s 2 0) (get_or s 3 0) n

-- ---- a scalar value's bytes

scalar_cases : (v : ℕ) → scalar v ≡ true → (v ≤ 0xD7FF) ⊎ ((0xE000 ≤ v) × (v ≤ 0x10FFFF))
scalar_cases v e = by (or_of (within (0 to 0xD7FF) v) (or (within (0xE000 to 0x10FFFF) v) false) e)
  where
    last : (within (0xE000 to 0x10FFFF) v ≡ true) ⊎ (false ≡ true) → (v ≤ 0xD7FF) ⊎ ((0xE000 ≤ v) × (v ≤ 0x10FFFF))
    last (inl x) = inr (range_of 0xE000 0x10FFFF v x)
    last (inr x) = absurd (clash x refl)

    by : (within (0 to 0xD7FF) v ≡ true) ⊎ (or (within (0xE000 to 0x10FFFF) v) false ≡ true) → (v ≤ 0xD7FF) ⊎ ((0xE000 ≤ v) × (v ≤ 0x10FFFF))
    by (inl x) = inl (range_of 0 0xD7FF v x).1
    by (inr x) = last (or_of (within (0xE000 to 0x10FFFF) v) false x)

scalar_below : (v : ℕ) → v ≤ 0xD7FF → scalar v ≡ true
scalar_below v h = or_left _ (and_true (leb_yes 0 v (omega arith)) (leb_yes v 0xD7FF h))

scalar_above : (v : ℕ) → 0xE000 ≤ v → v ≤ 0x10FFFF → scalar v ≡ true
scalar_above v l h = or_right (within (0 to 0xD7FF) v) (or_left false (and_true (leb_yes 0xE000 v l) (leb_yes v 0x10FFFF h)))

-- its bytes, by the three tests of `utf8`
abbrev formed : Bool → Bool → Bool → ℕ → List ℕ
formed x y z v =
    pick
    x
    (v ∷ [])
    (pick
    y
    ((192 + v / 64) ∷ (128 + v % 64) ∷ [])
    (pick
    z
    ((224 + v / 4096) ∷ (128 + v / 64 % 64) ∷ (128 + v % 64) ∷ [])
    ((240 + v / 262144) ∷ (128 + v / 4096 % 64) ∷ (128 + v / 64 % 64) ∷ (128 + v % 64) ∷ [])))

-- a character begins the text, and the rest is UTF-8 of scalar values
pub record Opened (s : List ℕ) : Type 0 where
  pub size : ℕ
  pub opens : Begun s size
  pub rest : Scripted (drop size s)

module _ (v : ℕ) (s : List ℕ) (x : Scripted s) (e : scalar v ≡ true) where
  tail : (n : ℕ) → Inner (128 + n % 64)
  tail n = record { low = omega arith; high = omega arith }

  formed_opened : (p q r : Bool) → leb v 127 ≡ p → leb v 2047 ≡ q → leb v 65535 ≡ r → Opened (formed p q r v ++ s)
  formed_opened true q r a b c = record { size = 1; opens = one (leb-true v 127 a); rest = x }
  formed_opened false true r a b c =
      let l = leb-false v 127 a in
      let h = leb-true v 2047 b in
      record { size = 2; opens = two (omega arith) (omega arith) (tail v); rest = x }
  formed_opened false false true a b c =
      let l = leb-false v 2047 b in
      let h = leb-true v 65535 c in
      by l h (scalar_cases v e)
    where
      by : 2047 < v → v ≤ 65535 → (v ≤ 0xD7FF) ⊎ ((0xE000 ≤ v) × (v ≤ 0x10FFFF)) → Opened (formed false false true v ++ s)
      by l h (inl y) = record { size = 3; opens = three_below (omega arith) (omega arith) (tail (v / 64)) (tail v); rest = x }
      by l h (inr y) = record { size = 3; opens = three_above (omega arith) (omega arith) (tail (v / 64)) (tail v); rest = x }
  formed_opened false false false a b c =
      let l = leb-false v 65535 c in
      by l (scalar_cases v e)
    where
      by : 65535 < v → (v ≤ 0xD7FF) ⊎ ((0xE000 ≤ v) × (v ≤ 0x10FFFF)) → Opened (formed false false false v ++ s)
      by l (inl y) = absurd (omega arith)
      by l (inr y) = record { size = 4; opens = four (omega arith) (omega arith) (tail (v / 4096)) (tail (v / 64)) (tail v); rest = x }

pub opened : {s : List ℕ} → Scripted s → 0 < length s → Opened s
opened scripted_none h = absurd (omega arith)
opened (scripted_more {s = s} v e x) h = formed_opened v s x e (leb v 127) (leb v 2047) (leb v 65535) refl refl refl

-- ---- bytes that open a character are those of a scalar value

spelt : (v : ℕ) (p q r : Bool) → leb v 127 ≡ p → leb v 2047 ≡ q → leb v 65535 ≡ r → utf8 v ≡ formed p q r v
spelt v p q r a b c = rw (a, b, c) refl

one_more : (v : ℕ) (w s : List ℕ) → scalar v ≡ true → utf8 v ≡ w → Scripted s → Scripted (w ++ s)
one_more v w s e h x = rw h at (scripted_more v e x)

same₂ : {a b a' b' : ℕ} → a ≡ a' → b ≡ b' → ◌≡◌ {A = List ℕ} (a ∷ b ∷ []) (a' ∷ b' ∷ [])
same₂ p q = cc

same₃ : {a b c a' b' c' : ℕ} → a ≡ a' → b ≡ b' → c ≡ c' → ◌≡◌ {A = List ℕ} (a ∷ b ∷ c ∷ []) (a' ∷ b' ∷ c' ∷ [])
same₃ p q r = cc

same₄ : {a b c d a' b' c' d' : ℕ} → a ≡ a' → b ≡ b' → c ≡ c' → d ≡ d' → ◌≡◌ {A = List ℕ} (a ∷ b ∷ c ∷ d ∷ []) (a' ∷ b' ∷ c' ∷ d' ∷ [])
same₄ p q r t = cc

module _ (s : List ℕ) where
  pub join_one : (b : ℕ) → b ≤ 127 → Scripted s → Scripted (b ∷ s)
  join_one b h = one_more b (b ∷ []) s (scalar_below b (omega arith)) (spelt b true true true (le-leb b 127 h) (le-leb b 2047 (omega arith)) (le-leb b 65535 (omega arith)))

  module _ (b c : ℕ) (i : Inner c) where
    pub join_two : 0xC280 ≤ 256 * b + c → 256 * b + c ≤ 0xDFBF → Scripted s → Scripted (b ∷ c ∷ s)
    join_two l h = put (64 * (b - 192) + (c - 128)) (omega arith) (omega arith) (omega arith)
      where
        put : (v : ℕ) → v + 12416 ≡ 64 * b + c → 127 < v → v ≤ 2047 → Scripted s → Scripted (b ∷ c ∷ s)
        put v e x y =
            one_more v (b ∷ c ∷ []) s (scalar_below v (omega arith)) (spelt v false true true (lt-leb v 127 x) (le-leb v 2047 y) (le-leb v 65535 (omega arith)) ∙ same₂ (omega arith) (omega arith))

    module _ (d : ℕ) (j : Inner d) where
      put_three : (v : ℕ) → v + 925824 ≡ 4096 * b + (64 * c + d) → 2047 < v → v ≤ 65535 → scalar v ≡ true → Scripted s → Scripted (b ∷ c ∷ d ∷ s)
      put_three v e x y z =
          one_more v (b ∷ c ∷ d ∷ []) s z (spelt v false false true (lt-leb v 127 (omega arith)) (lt-leb v 2047 x) (le-leb v 65535 y) ∙ same₃ (omega arith) (omega arith) (omega arith))

      value₃ : ℕ
      value₃ = 4096 * (b - 224) + (64 * (c - 128) + (d - 128))

      pub join_below : 0xE0A0 ≤ 256 * b + c → 256 * b + c ≤ 0xED9F → Scripted s → Scripted (b ∷ c ∷ d ∷ s)
      unfolding value₃
      join_below l h = put_three value₃ (omega arith) (omega arith) (omega arith) (scalar_below value₃ (omega arith))

      pub join_above : 0xEE80 ≤ 256 * b + c → 256 * b + c ≤ 0xEFBF → Scripted s → Scripted (b ∷ c ∷ d ∷ s)
      unfolding value₃
      join_above l h = put_three value₃ (omega arith) (omega arith) (omega arith) (scalar_above value₃ (omega arith) (omega arith))

      pub join_four : (f : ℕ) → Inner f → 0xF090 ≤ 256 * b + c → 256 * b + c ≤ 0xF48F → Scripted s → Scripted (b ∷ c ∷ d ∷ f ∷ s)
      join_four f k l h = put (262144 * (b - 240) + (4096 * (c - 128) + (64 * (d - 128) + (f - 128)))) (omega arith) (omega arith) (omega arith)
        where
          put : (v : ℕ) → v + 63447168 ≡ 262144 * b + (4096 * c + (64 * d + f)) → 65535 < v → v ≤ 0x10FFFF → Scripted s → Scripted (b ∷ c ∷ d ∷ f ∷ s)
          put v e x y =
              one_more v (b ∷ c ∷ d ∷ f ∷ []) s (scalar_above v (omega arith) y)
              (spelt v false false false (lt-leb v 127 (omega arith)) (lt-leb v 2047 (omega arith)) (lt-leb v 65535 x) ∙ same₄ (omega arith) (omega arith) (omega arith) (omega arith))
