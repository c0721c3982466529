-- A FLOAT'S TEXT, FROM PLACE TO PLACE: what an answer at one place tells of the place before it. Assumes nothing.
use Rattle.std.specs.Prelude.{◌≡◌, refl, Bool, true, false, List, [], ◌∷◌, ℕ, suc, ◌+◌, ◌-◌, ◌≤◌, ◌<◌, length, get_or, drop}
use Rattle.std.proofs.Common.{sym, ap, subst, ◌∙◌, arith, length-drop, drop_of_length-le, get_or-drop, drop-drop, ext_get_or}
use Rattle.std.proofs.Math.Decide.{dec_le}
use Rattle.notation.specs.Class.{is}
use Rattle.exact.specs.Class.{clash}
use Rattle.exact.specs.Tells.{Tells, tells_map, tells_yes, tells_no}
use Rattle.language.specs.Scalars.{digit, nan_word, infinity_word}
use Rattle.shaped.specs.Shaped.{Number, Power, Powers, no_power, Decimal, FloatText, no_number}
use Rattle.texts.specs.Float.{Digited, Fraction, Parted, Onward, Broken, Unsigned, no_end}
use Rattle.texts.specs.Runs.{past_stop}
use Rattle.texts.specs.Decimals.{power_first, Sign, power_signed, power_plain, powers_some, fraction_past, parted_past, parted_first, onward_point, onward_power, broken_first, broken_point, decimal_broken, decimal_onward, unsigned_decimal, float_minus, float_plus}

pub tells_both : {A B : Type 0} → (A → B) × (B → A) → (r : Bool) → Tells A r → Tells B r
tells_both e r t = tells_map e.0 e.1 r t

module _ (s : List ℕ) (at : ℕ) where
  -- the text from here on, and the text a few bytes on
  abbrev rest : List ℕ
  rest = drop at s

  byte_at : (i k b : ℕ) → at + i ≡ k → b ≡ get_or s k 0 → get_or rest i 0 ≡ b
  byte_at i k b e f = get_or-drop at s i 0 ∙ (ap (λ (j : ℕ). get_or s j 0) e ∙ sym f)

  further : (n : ℕ) → drop n rest ≡ drop (at + n) s
  further n = drop-drop n at s

  module _ (b : ℕ) (here : b ≡ get_or s at 0) where
    first : (k : ℕ) → b ≡ k → get_or rest 0 0 ≡ k
    first k e = byte_at 0 at b (omega arith) here ∙ e

    pub held : (k : ℕ) → b ≡ suc k → at < length s
    held k e = go rest (first (suc k) e) (length-drop at s)
      where
        go : (x : List ℕ) → get_or x 0 0 ≡ suc k → length x ≡ length s - at → at < length s
        go [] f l = absurd (omega arith)
        go (c ∷ x) f l = omega arith

    -- ---- exponents

    pub power_not : (b ≡ 101 → ⊥) → Power (drop at s) → ⊥
    power_not n p = n (sym (first b refl) ∙ power_first p)

    module _ (e : b ≡ 101) (c : ℕ) (after : c ≡ get_or s (at + 1) 0) (r : Bool) where
      second : get_or rest 1 0 ≡ c
      second = byte_at 1 (at + 1) c refl after

      pub power_after_sign : Sign c → Tells (Number (drop (at + 2) s)) r → Tells (Power (drop at s)) r
      power_after_sign f t = tells_both (power_signed rest (first 101 e) (rw second f)) r (rw (further 2) t)

      pub power_after : (Sign c → ⊥) → Tells (Number (drop (at + 1) s)) r → Tells (Power (drop at s)) r
      power_after f t = tells_both (power_plain rest (first 101 e) (λ z. f (rw second at z))) r (rw (further 1) t)

    -- ---- a point

    pub onward_pointed : b ≡ 46 → (r : Bool) → Tells (Fraction (drop (at + 1) s)) r → Tells (Onward (drop at s)) r
    onward_pointed e r t = tells_both (onward_point rest (first 46 e)) r (rw (further 1) t)

    pub onward_raised : (b ≡ 46 → ⊥) → (r : Bool) → Tells (Power (drop at s)) r → Tells (Onward (drop at s)) r
    onward_raised n r t = tells_both (onward_power rest (λ z. n (sym (first b refl) ∙ z))) r t

    pub broken_not : (b ≡ 46 → ⊥) → Broken (drop at s) → ⊥
    broken_not n x = n (sym (first b refl) ∙ broken_first x)

    module _ (e : b ≡ 46) (n : ℕ) (d : Digited s (at + 1) n) where
      after_point : (Parted (drop (at + 1) s) → Broken rest) × (Broken rest → Parted (drop (at + 1) s))
      after_point = rw (further 1) at (broken_point rest (first 46 e))

      pub broken_bare : n ≡ at + 1 → Broken (drop at s) → ⊥
      broken_bare z x =
          clash (parted_first (after_point.1 x)) (subst (λ (k : ℕ). is digit (get_or (drop k s) 0 0) ≡ false) z (past_stop d.past))

      pub broken_told : (n ≡ at + 1 → ⊥) → (r : Bool) → Tells (Powers (drop n s)) r → Tells (Broken (drop at s)) r
      broken_told z r t =
          tells_both
          after_point
          r
          (tells_both (parted_past d.past (omega (arith, d.onward, d.inside, length-drop n s, length-drop (at + 1) s))) r t)

  pub powers_told : at < length s → (r : Bool) → Tells (Power (drop at s)) r → Tells (Powers (drop at s)) r
  powers_told l r t = tells_both (powers_some (omega (arith, length-drop at s))) r t

  pub powers_none : length s ≤ at → Powers (drop at s)
  powers_none l = rw (drop_of_length-le s l) no_power

  -- ---- digits

  module _ (n : ℕ) (d : Digited s at n) (r : Bool) where
    pub fraction_told : Tells (Powers (drop n s)) r → Tells (Fraction (drop at s)) r
    fraction_told t = tells_both (fraction_past d.past) r t

    pub decimal_pointed : n ≡ at → Tells (Broken (drop at s)) r → Tells (Decimal (drop at s)) r
    decimal_pointed e t =
        tells_both (decimal_broken (subst (λ (k : ℕ). is digit (get_or (drop k s) 0 0) ≡ false) e (past_stop d.past))) r t

    pub decimal_told : (n ≡ at → ⊥) → Tells (Onward (drop n s)) r → Tells (Decimal (drop at s)) r
    decimal_told e t = tells_both (decimal_onward d.past (omega (arith, d.onward, d.inside, length-drop n s, length-drop at s))) r t

-- ---- a word

-- the first i bytes are those of the word
pub record Alike (s : List ℕ) (at : ℕ) (w : List ℕ) (i : ℕ) : Type 0 where
  pub few : i ≤ length w
  pub same : (j : ℕ) → j < i → get_or s (at + j) 0 ≡ get_or w j 0

module _ (s : List ℕ) (at : ℕ) (w : List ℕ) where
  pub alike_start : Alike s at w 0
  alike_start = record { few = omega arith; same = λ j l. absurd (omega arith) }

  pub word_longer : (length s - at ≡ length w → ⊥) → drop at s ≡ w → ⊥
  word_longer n e = n (sym (length-drop at s) ∙ ap length e)

  module _ (i : ℕ) (come : Alike s at w i) where
    pub alike_more : i < length w → get_or s (at + i) 0 ≡ get_or w i 0 → Alike s at w (i + 1)
    alike_more l e = record { few = omega arith; same = λ j m. by j m (dec_le i j) }
      where
        by : (j : ℕ) → j < i + 1 → Dec (i ≤ j) → get_or s (at + j) 0 ≡ get_or w j 0
        by j m (yes o) = let z : j ≡ i = omega arith in rw z e
        by j m (no o) = come.same j (omega arith)

    pub alike_not : (get_or s (at + i) 0 ≡ get_or w i 0 → ⊥) → drop at s ≡ w → ⊥
    alike_not f z = f (sym (get_or-drop at s i 0) ∙ ap (λ x. get_or x i 0) z)

    pub alike_whole : length s - at ≡ length w → length w ≤ i → drop at s ≡ w
    alike_whole e l = ext_get_or 0 (drop at s) w (length-drop at s ∙ e) (λ j m. get_or-drop at s j 0 ∙ come.same j (omega (arith, length-drop at s)))

-- ---- a float

module _ (x : List ℕ) (t : Bool) (told : Tells (x ≡ infinity_word) t) where
  pub unsigned_word : t ≡ true → Unsigned x
  unsigned_word e = rw (tells_yes t e told) no_end

  pub unsigned_told : t ≡ false → (r : Bool) → Tells (Decimal x) r → Tells (Unsigned x) r
  unsigned_told e r d = tells_both (unsigned_decimal x (tells_no t e told)) r d

module _ (s : List ℕ) (b : ℕ) (here : b ≡ get_or s 0 0) where
  pub float_less : b ≡ 45 → (r : Bool) → Tells (Unsigned (drop 1 s)) r → Tells (FloatText s) r
  float_less e r u = tells_both (float_minus s (sym here ∙ e)) r u

  module _ (t : Bool) (told : Tells (s ≡ nan_word) t) where
    pub float_word : t ≡ true → FloatText s
    float_word e = rw (tells_yes t e told) no_number

    pub float_told : (b ≡ 45 → ⊥) → t ≡ false → (r : Bool) → Tells (Unsigned s) r → Tells (FloatText s) r
    float_told n e r u = tells_both (float_plus s (λ z. n (here ∙ z)) (tells_no t e told)) r u
