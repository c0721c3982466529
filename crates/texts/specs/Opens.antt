-- THE FIRST FOUR BYTES of a text tell whether a character begins it, and of how many bytes. Assumes nothing.
use Rattle.std.specs.Prelude.{◌≡◌, refl, Bool, true, false, ℕ, zero, suc, ◌+◌, ◌*◌, ◌≤◌, ◌<◌, leb}
use Rattle.std.proofs.Common.{sym, ◌∙◌, arith, rules, le-leb}
use Rattle.std.proofs.lemmas.Bool.{lt-leb}
use Rattle.notation.specs.Class.{pick}
use Rattle.exact.specs.Tells.{Tells, tells_yes, tells_no}

-- a byte within a character, behind its first one
pub record Inner (c : ℕ) : Type 0 where
  pub low : 128 ≤ c
  pub high : c ≤ 191

-- a character of so many bytes begins with these: no overlong form, no surrogate (ED A0 to ED BF), at most F4 8F BF BF
pub data Opens (b c d f : ℕ) : ℕ → Type 0 where
  one : b ≤ 127 → Opens b c d f 1
  two : 0xC280 ≤ 256 * b + c → 256 * b + c ≤ 0xDFBF → Inner c → Opens b c d f 2
  three_below : 0xE0A0 ≤ 256 * b + c → 256 * b + c ≤ 0xED9F → Inner c → Inner d → Opens b c d f 3
  three_above : 0xEE80 ≤ 256 * b + c → 256 * b + c ≤ 0xEFBF → Inner c → Inner d → Opens b c d f 3
  four : 0xF090 ≤ 256 * b + c → 256 * b + c ≤ 0xF48F → Inner c → Inner d → Inner f → Opens b c d f 4

-- the number of bytes; 0 where none begins
abbrev pub Led : ℕ → ℕ → ℕ → ℕ → ℕ → Type 0
Led b c d f zero = (n : ℕ) → Opens b c d f n → ⊥
Led b c d f (suc n) = Opens b c d f (suc n)

-- the first byte tells the number
sized : ℕ → ℕ
sized b = pick (leb b 127) 1 (pick (leb b 223) 2 (pick (leb b 239) 3 4))

opens_sized : {b c d f n : ℕ} → Opens b c d f n → n ≡ sized b
unfolding sized
opens_sized {b} (one h) = rw (le-leb b 127 h) refl
opens_sized {b} (two l h i) = rw (lt-leb b 127 (omega arith), le-leb b 223 (omega arith)) refl
opens_sized {b} (three_below l h i j) = rw (lt-leb b 127 (omega arith), lt-leb b 223 (omega arith), le-leb b 239 (omega arith)) refl
opens_sized {b} (three_above l h i j) = rw (lt-leb b 127 (omega arith), lt-leb b 223 (omega arith), le-leb b 239 (omega arith)) refl
opens_sized {b} (four l h i j k) = rw (lt-leb b 127 (omega arith), lt-leb b 223 (omega arith), lt-leb b 239 (omega arith)) refl

pub opens_same : {b c d f n m : ℕ} → Opens b c d f n → Opens b c d f m → n ≡ m
opens_same x y = opens_sized x ∙ sym (opens_sized y)

-- ---- what the tests find

pub both_inner : (c d : ℕ) (t u : Bool) → Tells (Inner c) t → t ≡ true → Tells (Inner d) u → Tells (Inner c × Inner d) u
both_inner c d t true i e x = (tells_yes t e i, x)
both_inner c d t false i e x = λ y. x y.1

pub not_inner : (c d : ℕ) (t : Bool) → Tells (Inner c) t → t ≡ false → Inner c × Inner d → ⊥
not_inner c d t i e x = tells_no t e i x.0

-- the number of bytes, told by what the first two make, where the first is no character by itself
abbrev pub Long : ℕ → ℕ → ℕ → ℕ → Type 0
Long w d f n = (b c : ℕ) → 128 ≤ b → Inner c → 256 * b + c ≡ w → Led b c d f n

module _ (w d f : ℕ) where
  pub long_two : 0xC280 ≤ w → w ≤ 0xDFBF → Long w d f 2
  long_two l h b c p i e = two (omega arith) (omega arith) i

  -- a third byte is asked
  long_three : 0xE000 ≤ w → ((b c : ℕ) → 256 * b + c ≡ w → Inner c → Inner d → Opens b c d f 3) → (t : Bool) → Tells (Inner d) t → (r : ℕ) → r ≡ pick t 3 0 → Long w d f r
  long_three l x true j r z = rw z λ b c p i e. x b c e i j
  long_three l x false j r z = rw z not
    where
      not : Long w d f 0
      not b c p i e n (one x) = omega arith
      not b c p i e n (two x y k) = omega arith
      not b c p i e n (three_below x y k m) = j m
      not b c p i e n (three_above x y k m) = j m
      not b c p i e n (four x y k m o) = j m

  pub long_below : 0xE0A0 ≤ w → w ≤ 0xED9F → (t : Bool) → Tells (Inner d) t → (r : ℕ) → r ≡ pick t 3 0 → Long w d f r
  long_below l h = long_three (omega arith) (λ b c e i j. three_below (omega arith) (omega arith) i j)

  pub long_above : 0xEE80 ≤ w → w ≤ 0xEFBF → (t : Bool) → Tells (Inner d) t → (r : ℕ) → r ≡ pick t 3 0 → Long w d f r
  long_above l h = long_three (omega arith) (λ b c e i j. three_above (omega arith) (omega arith) i j)

  pub long_four : 0xF090 ≤ w → w ≤ 0xF48F → (t : Bool) → Tells (Inner d × Inner f) t → (r : ℕ) → r ≡ pick t 4 0 → Long w d f r
  long_four l h true j r z = rw z λ b c p i e. four (omega arith) (omega arith) i j.0 j.1
  long_four l h false j r z = rw z not
    where
      not : Long w d f 0
      not b c p i e n (one x) = omega arith
      not b c p i e n (two x y k) = omega arith
      not b c p i e n (three_below x y k m) = omega arith
      not b c p i e n (three_above x y k m) = omega arith
      not b c p i e n (four x y k m o) = j (m, o)

  pub long_none : (0xC280 ≤ w → w ≤ 0xDFBF → ⊥) → (0xE0A0 ≤ w → w ≤ 0xED9F → ⊥) → (0xEE80 ≤ w → w ≤ 0xEFBF → ⊥) → (0xF090 ≤ w → w ≤ 0xF48F → ⊥)
      → Long w d f 0
  long_none x y z v b c p i e n (one h) = omega arith
  long_none x y z v b c p i e n (two l h j) = x (omega arith) (omega arith)
  long_none x y z v b c p i e n (three_below l h j k) = y (omega arith) (omega arith)
  long_none x y z v b c p i e n (three_above l h j k) = z (omega arith) (omega arith)
  long_none x y z v b c p i e n (four l h j k m) = v (omega arith) (omega arith)

module _ (b c d f : ℕ) where
  pub led_one : b < 128 → Led b c d f 1
  led_one h = one (omega arith)

  module _ (past : 128 ≤ b) (t : Bool) (i : Tells (Inner c) t) where
    pub led_outer : t ≡ false → Led b c d f 0
    led_outer e = not (tells_no t e i)
      where
        not : (Inner c → ⊥) → Led b c d f 0
        not i n (one h) = omega arith
        not i n (two l h j) = i j
        not i n (three_below l h j k) = i j
        not i n (three_above l h j k) = i j
        not i n (four l h j k m) = i j

    pub led_long : t ≡ true → (r : ℕ) → Long (256 * b + c) d f r → Led b c d f r
    led_long e r x = x b c past (tells_yes t e i) refl

pub ruleset opening = (led_one, led_outer, led_long, rules)
