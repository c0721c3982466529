-- HOW A FLOAT'S TEXT GOES ON, decided by its first bytes and by what stands behind its digits. Assumes nothing.
use Rattle.std.specs.Prelude.{◌≡◌, refl, true, false, List, [], ◌∷◌, ◌++◌, ◌⊎◌, ℕ, ◌<◌, length, get_or, drop}
use Rattle.std.proofs.Common.{ap, subst, ◌∙◌, append_assoc, inl, inr, arith, get_or-drop}
use Rattle.notation.specs.Class.{is}
use Rattle.exact.specs.Class.{clash}
use Rattle.language.specs.Scalars.{digit, nan_word, infinity_word}
use Rattle.shaped.specs.Shaped.{Number, number, plus, minus, Power, power, power_plus, power_minus, Powers, no_power, one_power, Decimal, pointed, broken, raised, FloatText, no_number, infinite, less_infinite, decimal}
use Rattle.texts.specs.Float.{Past, past_none, past_more, Fraction, fraction, Parted, parted, Onward, point, raise, Broken, break, Unsigned, no_end, finite}
use Rattle.texts.specs.Runs.{past_same, past_over, front, led_by, number_first}

-- ---- exponents

-- the second byte of a text, and the first of what follows the first
second : (x : List ℕ) → get_or (drop 1 x) 0 0 ≡ get_or x 1 0
second x = get_or-drop 1 x 0 0

pub power_first : {x : List ℕ} → Power x → get_or x 0 0 ≡ 101
power_first (power n) = refl
power_first (power_plus n) = refl
power_first (power_minus n) = refl

-- a sign, `+` or `-`
abbrev pub Sign : ℕ → Type 0
Sign b = (b ≡ 43) ⊎ (b ≡ 45)

power_cases : {x : List ℕ} → Power x → Number (drop 1 x) ⊎ (Sign (get_or x 1 0) × Number (drop 2 x))
power_cases (power n) = inl n
power_cases (power_plus n) = inr (inl refl, n)
power_cases (power_minus n) = inr (inr refl, n)

sign_stop : {b : ℕ} → Sign b → is digit b ≡ false
sign_stop (inl e) = ap (is digit) e
sign_stop (inr e) = ap (is digit) e

no_digit : (x : List ℕ) → Sign (get_or x 1 0) → Number (drop 1 x) → ⊥
no_digit x f n = clash (number_first n) (ap (is digit) (second x) ∙ sign_stop f)

module _ (x : List ℕ) (e : get_or x 0 0 ≡ 101) where
  pub power_signed : Sign (get_or x 1 0) → (Number (drop 2 x) → Power x) × (Power x → Number (drop 2 x))
  power_signed f = (go x e f, λ p. by (power_cases p))
    where
      go : (x : List ℕ) → get_or x 0 0 ≡ 101 → Sign (get_or x 1 0) → Number (drop 2 x) → Power x
      go [] e f n = absurd (omega arith)
      go (b ∷ []) e (inl f) n = absurd (omega arith)
      go (b ∷ []) e (inr f) n = absurd (omega arith)
      go (b ∷ c ∷ y) e (inl f) n = rw (e, f) (power_plus n)
      go (b ∷ c ∷ y) e (inr f) n = rw (e, f) (power_minus n)

      by : Number (drop 1 x) ⊎ (Sign (get_or x 1 0) × Number (drop 2 x)) → Number (drop 2 x)
      by (inl n) = absurd (no_digit x f n)
      by (inr n) = n.1

  pub power_plain : (Sign (get_or x 1 0) → ⊥) → (Number (drop 1 x) → Power x) × (Power x → Number (drop 1 x))
  power_plain f = (go x e, λ p. by (power_cases p))
    where
      go : (x : List ℕ) → get_or x 0 0 ≡ 101 → Number (drop 1 x) → Power x
      go [] e n = absurd (omega arith)
      go (b ∷ y) e n = rw e (power n)

      by : Number (drop 1 x) ⊎ (Sign (get_or x 1 0) × Number (drop 2 x)) → Number (drop 1 x)
      by (inl n) = n
      by (inr n) = absurd (f n.0)

pub powers_some : {x : List ℕ} → 0 < length x → (Power x → Powers x) × (Powers x → Power x)
powers_some {x} l = ((λ p. one_power p), back l)
  where
    back : {x : List ℕ} → 0 < length x → Powers x → Power x
    back l no_power = absurd (omega arith)
    back l (one_power p) = p

power_stop : {x : List ℕ} → Power x → is digit (get_or x 0 0) ≡ false
power_stop p = ap (is digit) (power_first p)

powers_stop : {x : List ℕ} → Powers x → is digit (get_or x 0 0) ≡ false
powers_stop no_power = refl
powers_stop (one_power p) = power_stop p

-- ---- behind a point, behind digits

pub fraction_past : {s t : List ℕ} → Past s t → (Powers t → Fraction s) × (Fraction s → Powers t)
fraction_past {s} {t} x = ((λ p. let f = front x in subst Fraction f.joined (fraction f.digits p)), back x)
  where
    back : {s t : List ℕ} → Past s t → Fraction s → Powers t
    back x (fraction ds p) = subst Powers (past_same (past_over ds (powers_stop p)) x) p

number_over : {ds t : List ℕ} → Number ds → is digit (get_or t 0 0) ≡ false → Past (ds ++ t) t
number_over (number d ds) e = past_more d (past_over ds e)

pub parted_past : {s t : List ℕ} → Past s t → length t < length s → (Powers t → Parted s) × (Parted s → Powers t)
parted_past {s} {t} x l = ((λ p. let f = led_by x l in subst Parted f.joined (parted f.digits p)), back x)
  where
    back : {s t : List ℕ} → Past s t → Parted s → Powers t
    back x (parted ds p) = subst Powers (past_same (number_over ds (powers_stop p)) x) p

pub parted_first : {s : List ℕ} → Parted s → is digit (get_or s 0 0) ≡ true
parted_first (parted (number d ds) p) = d

pub onward_point : (x : List ℕ) → get_or x 0 0 ≡ 46 → (Fraction (drop 1 x) → Onward x) × (Onward x → Fraction (drop 1 x))
onward_point x e = (there x e, back e)
  where
    there : (x : List ℕ) → get_or x 0 0 ≡ 46 → Fraction (drop 1 x) → Onward x
    there [] e f = absurd (omega arith)
    there (b ∷ y) e f = rw e (point f)

    back : {x : List ℕ} → get_or x 0 0 ≡ 46 → Onward x → Fraction (drop 1 x)
    back e (point f) = f
    back e (raise p) = absurd (omega (arith, power_first p))

pub onward_power : (x : List ℕ) → (get_or x 0 0 ≡ 46 → ⊥) → (Power x → Onward x) × (Onward x → Power x)
onward_power x n = ((λ p. raise p), back n)
  where
    back : {x : List ℕ} → (get_or x 0 0 ≡ 46 → ⊥) → Onward x → Power x
    back n (point f) = absurd (n refl)
    back n (raise p) = p

pub broken_first : {x : List ℕ} → Broken x → get_or x 0 0 ≡ 46
broken_first (break p) = refl

pub broken_point : (x : List ℕ) → get_or x 0 0 ≡ 46 → (Parted (drop 1 x) → Broken x) × (Broken x → Parted (drop 1 x))
broken_point x e = (there x e, back)
  where
    there : (x : List ℕ) → get_or x 0 0 ≡ 46 → Parted (drop 1 x) → Broken x
    there [] e f = absurd (omega arith)
    there (b ∷ y) e f = rw e (break f)

    back : {x : List ℕ} → Broken x → Parted (drop 1 x)
    back (break p) = p

-- ---- decimals

pub decimal_broken : {x : List ℕ} → is digit (get_or x 0 0) ≡ false → (Broken x → Decimal x) × (Decimal x → Broken x)
decimal_broken e = (there, back e)
  where
    there : {x : List ℕ} → Broken x → Decimal x
    there (break (parted n p)) = broken n p

    back : {x : List ℕ} → is digit (get_or x 0 0) ≡ false → Decimal x → Broken x
    back e (pointed (number d ds) fs p) = absurd (clash d e)
    back e (broken n p) = break (parted n p)
    back e (raised (number d ds) p) = absurd (clash d e)

onward_decimal : {ds t : List ℕ} → Number ds → Onward t → Decimal (ds ++ t)
onward_decimal n (point (fraction fs p)) = rw append_assoc at (pointed n fs p)
onward_decimal n (raise p) = raised n p

pub decimal_onward : {s t : List ℕ} → Past s t → length t < length s → (Onward t → Decimal s) × (Decimal s → Onward t)
decimal_onward x l = ((λ o. let f = led_by x l in subst Decimal f.joined (onward_decimal f.digits o)), back x l)
  where
    back : {s t : List ℕ} → Past s t → length t < length s → Decimal s → Onward t
    back x l (pointed n fs p) = subst Onward (past_same (number_over n refl) (rw append_assoc at x)) (point (fraction fs p))
    back x l (broken n p) = absurd (omega (arith, ap length (past_same (past_none refl) x)))
    back x l (raised n p) = subst Onward (past_same (number_over n (power_stop p)) x) (raise p)

decimal_first : {x : List ℕ} → Decimal x → (get_or x 0 0 ≡ 45 → ⊥)
decimal_first (pointed (number d ds) fs p) e = clash d (ap (is digit) e)
decimal_first (broken n p) e = omega arith
decimal_first (raised (number d ds) p) e = clash d (ap (is digit) e)

-- ---- floats

pub float_minus : (s : List ℕ) → get_or s 0 0 ≡ 45 → (Unsigned (drop 1 s) → FloatText s) × (FloatText s → Unsigned (drop 1 s))
float_minus s e = (there s e, back e)
  where
    less : {y : List ℕ} → Unsigned y → FloatText (45 ∷ y)
    less no_end = less_infinite
    less (finite d) = decimal minus d

    there : (s : List ℕ) → get_or s 0 0 ≡ 45 → Unsigned (drop 1 s) → FloatText s
    there [] e u = absurd (omega arith)
    there (b ∷ y) e u = rw e (less u)

    back : {s : List ℕ} → get_or s 0 0 ≡ 45 → FloatText s → Unsigned (drop 1 s)
    back e no_number = absurd (omega arith)
    back e infinite = absurd (omega arith)
    back e less_infinite = no_end
    back e (decimal plus d) = absurd (decimal_first d e)
    back e (decimal minus d) = finite d

pub float_plus : (s : List ℕ) → (get_or s 0 0 ≡ 45 → ⊥) → (s ≡ nan_word → ⊥) → (Unsigned s → FloatText s) × (FloatText s → Unsigned s)
float_plus s n w = (there, back n w)
  where
    there : {s : List ℕ} → Unsigned s → FloatText s
    there no_end = infinite
    there (finite d) = decimal plus d

    back : {s : List ℕ} → (get_or s 0 0 ≡ 45 → ⊥) → (s ≡ nan_word → ⊥) → FloatText s → Unsigned s
    back n w no_number = absurd (w refl)
    back n w infinite = no_end
    back n w less_infinite = absurd (n refl)
    back n w (decimal plus d) = finite d
    back n w (decimal minus d) = absurd (n refl)

pub unsigned_decimal : (s : List ℕ) → (s ≡ infinity_word → ⊥) → (Decimal s → Unsigned s) × (Unsigned s → Decimal s)
unsigned_decimal s w = ((λ d. finite d), back w)
  where
    back : {s : List ℕ} → (s ≡ infinity_word → ⊥) → Unsigned s → Decimal s
    back w no_end = absurd (w refl)
    back w (finite d) = d
