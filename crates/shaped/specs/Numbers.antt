-- TEXTS OF NUMBERS: what an integer and a float are read as is an integer's and a float's text. Assumes nothing.
use Rattle.std.specs.Prelude.{◌≡◌, refl, List, [], ◌∷◌, ◌++◌, ◌⊎◌, Bool, true, false, ℕ, ◌≤◌, eqb}
use Rattle.std.proofs.Common.{append_assoc, inl, inr, arith, eqb-true, ne_eqb}
use Rattle.std.proofs.lemmas.Bool.{eqb-false}
use Rattle.notation.specs.Class.{pick, ◌to◌, within, is, only}
use Rattle.language.specs.Characters.{Option}
use Rattle.language.specs.Scalars
use Rattle.language.specs.Scalars.{digit, Further, One, plain, signed, Integer, Pointed, Exponent, Float}
use Rattle.integers.specs.Integer
use Rattle.integers.specs.Integer.{digits, counting, is_integer}
use Rattle.exact.specs.Class.{or_of, range_of, leb_yes, only_eq}
use Rattle.spans.specs.Words.{Values, alt_words, ret_values, skip}
use Rattle.spans.specs.Ascii.{Each}
use Rattle.shaped.specs.Shaped.{Digits, digits_none, digits_more, Number, number, Minus, plus, minus, Power, power, power_plus, power_minus, Powers, no_power, one_power, Decimal, pointed, broken, raised, decimal, Shaped, shaped_leaf, is_an_integer, is_float}
use Rattle.shaped.specs.Ranges.{in_range}
use Rattle.shaped.specs.Given.{bind_values, map_values, via_values, byte_values, star_values}

-- ---- digits

abbrev IsDigit : ℕ → Type 0
IsDigit d = is digit d ≡ true

digits_of : (ds : List ℕ) → Each IsDigit ds → Digits ds
digits_of [] h = digits_none
digits_of (d ∷ ds) h = digits_more h.0 (digits_of ds h.1)

further_digit : (spaced : Bool) → Values (Further spaced) IsDigit
further_digit false = byte_values (λ b e. e)
further_digit true = alt_words (byte_values (λ b e. e)) (skip (λ s. byte_values (λ b e. e)))

number_given : (spaced : Bool) → Values (Scalars.Digits spaced) Number
number_given spaced = bind_values (byte_values (λ b e. e)) (λ d h. map_values (star_values (further_digit spaced)) (λ ds hs. number h (digits_of ds hs)))

-- this byte alone
one_given : (b : ℕ) → Values (One (only b)) (λ s. s ≡ b ∷ [])
one_given b = map_values {P = λ c. c ≡ b} (byte_values (λ c e. only_eq b c e)) (λ c e. rw e)

minus_given : Values (Option (One (only 45))) Minus
minus_given = alt_words (via_values (one_given 45) (λ s e. rw e minus)) (ret_values plus)

-- ---- integers

digit_from : (d : ℕ) → IsDigit d → (48 ≤ d) × (d ≤ 57)
digit_from d h = in_range 48 57 d h

digits_hold : {ds : List ℕ} → Digits ds → digits ds ≡ true
unfolding digits Integer.digit
digits_hold digits_none = refl
digits_hold (digits_more {d = d} h x) = let b = digit_from d h in rw (leb_yes 48 d b.0, leb_yes d 57 b.1) (digits_hold x)

-- "zero is `0`", or "digits without leading zeros"
data PlainDigits : List ℕ → Type 0 where
  nought : PlainDigits (48 ∷ [])
  counted : {d : ℕ} {ds : List ℕ} → (d ≡ 48 → ⊥) → IsDigit d → Digits ds → PlainDigits (d ∷ ds)

plain_one : (d : ℕ) (c : Bool) → eqb d 48 ≡ c → IsDigit d → PlainDigits (d ∷ [])
plain_one d true e h = rw (eqb-true d 48 e) nought
plain_one d false e h = counted (eqb-false d 48 e) h digits_none

plain_digits : (d : ℕ) {ds : List ℕ} → IsDigit d → Digits ds → PlainDigits (plain (d ∷ ds))
unfolding plain
plain_digits d h digits_none = plain_one d (eqb d 48) refl h
plain_digits d h (digits_more {d = f} {ds = ds} k x) = by (eqb d 48) refl (plain_digits f k x)
  where
    by : (c : Bool) → eqb d 48 ≡ c → PlainDigits (plain (f ∷ ds)) → PlainDigits (pick c (plain (f ∷ ds)) (d ∷ f ∷ ds))
    by true e y = y
    by false e y = counted (eqb-false d 48 e) h (digits_more k x)

plain_counting : (d : ℕ) {ds : List ℕ} → (d ≡ 48 → ⊥) → IsDigit d → Digits ds → counting (d ∷ ds) ≡ true
unfolding counting
plain_counting d n h x = let b = digit_from d h in rw (leb_yes 49 d (omega (arith, n)), leb_yes d 57 b.1) (digits_hold x)

plain_integer : {s : List ℕ} → PlainDigits s → is_integer s ≡ true
unfolding is_integer Integer.empty
plain_integer nought = refl
plain_integer (counted {d = d} n h x) = let b = digit_from d h in rw (ne_eqb d 45 (λ e. omega arith), ne_eqb d 48 n) (plain_counting d n h x)

plain_minus : {s : List ℕ} → PlainDigits s → is_integer (Scalars.minus s) ≡ true
unfolding is_integer Scalars.minus Integer.empty
plain_minus nought = refl
plain_minus (counted {d = d} n h x) = rw (ne_eqb d 48 n) (plain_counting d n h x)

pub integer_text : {m ds : List ℕ} → Minus m → Number ds → is_integer (signed m ds) ≡ true
integer_text plus (number h x) = plain_integer (plain_digits _ h x)
integer_text minus (number h x) = plain_minus (plain_digits _ h x)

pub integer_shaped : (k : ℕ) (spaced : Bool) → Values (Integer spaced) (Shaped k)
integer_shaped k spaced =
    skip (λ a. bind_values minus_given (λ m h. bind_values (number_given spaced) (λ ds l. skip (λ e. ret_values (shaped_leaf (is_an_integer (integer_text h l)))))))

-- ---- floats

number_digits : {ds : List ℕ} → Number ds → Digits ds
number_digits (number h x) = digits_more h x

fraction_given : (spaced : Bool) → Values (Option (Scalars.Digits spaced)) Digits
fraction_given spaced = alt_words (via_values (number_given spaced) (λ ds h. number_digits h)) (ret_values digits_none)

-- "`d.`, `d.d`, `.d`", with what may follow
abbrev Point : List ℕ → Type 0
Point p = (x : List ℕ) → Powers x → Decimal (p ++ x)

pointed_given : (spaced : Bool) → Values (Pointed spaced) Point
pointed_given spaced =
    alt_words
    (bind_values (number_given spaced) (λ ds h. bind_values (one_given 46) (λ p e. map_values (fraction_given spaced) (λ fs l x q. by ds p fs x e h l q))))
    (bind_values (one_given 46) (λ p e. map_values (number_given spaced) (λ fs l x q. rw e (broken l q))))
  where
    by : (ds p fs x : List ℕ) → p ≡ 46 ∷ [] → Number ds → Digits fs → Powers x → Decimal (ds ++ p ++ fs ++ x)
    by ds p fs x e h l q = rw (e, append_assoc ds (46 ∷ []) fs) (pointed h l q)

-- `+` or `-`, or neither
abbrev Sign : List ℕ → Type 0
Sign s = (ds : List ℕ) → Number ds → Power (101 ∷ s ++ ds)

sign_given : Values (Option (One ((43 to 43) ∷ (45 to 45) ∷ []))) Sign
sign_given = alt_words (map_values {P = λ b. (b ≡ 43) ⊎ (b ≡ 45)} (byte_values (λ b e. either b e)) (λ b h. by b h)) (ret_values (λ ds h. power h))
  where
    either : (b : ℕ) → is ((43 to 43) ∷ (45 to 45) ∷ []) b ≡ true → (b ≡ 43) ⊎ (b ≡ 45)
    either b e = go (or_of _ (is (only 45) b) e)
      where
        go : (within (43 to 43) b ≡ true) ⊎ (is (only 45) b ≡ true) → (b ≡ 43) ⊎ (b ≡ 45)
        go (inl x) = let h = range_of 43 43 b x in inl (omega arith)
        go (inr x) = inr (only_eq 45 b x)

    by : (b : ℕ) → (b ≡ 43) ⊎ (b ≡ 45) → Sign (b ∷ [])
    by b (inl e) ds h = rw e (power_plus h)
    by b (inr e) ds h = rw e (power_minus h)

power_given : (spaced : Bool) → Values (Exponent spaced) Power
power_given spaced =
    bind_values
    (one_given 101)
    (λ x e. bind_values sign_given (λ s f. map_values (number_given spaced) (λ ds h. by x s ds e (f ds h))))
  where
    by : (x s ds : List ℕ) → x ≡ 101 ∷ [] → Power (101 ∷ s ++ ds) → Power (x ++ s ++ ds)
    by x s ds e h = rw e h

pub float_shaped : (k : ℕ) (spaced : Bool) → Values (Float spaced) (Shaped k)
float_shaped k spaced =
    skip
    (λ a. bind_values
    minus_given
    (λ m h. bind_values
    {P = Decimal}
    (alt_words
    (bind_values (pointed_given spaced) (λ p f. map_values {P = Powers} (alt_words (via_values (power_given spaced) (λ x q. one_power q)) (ret_values no_power)) (λ x q. f x q)))
    (bind_values (number_given spaced) (λ ds l. map_values (power_given spaced) (λ x q. raised l q))))
    (λ w d. skip (λ e. ret_values (shaped_leaf (is_float (decimal h d)))))))
