-- Laws of the texts of integers. Assumes nothing.
use Rattle.std.proofs.Common.{◌≡◌, ℕ, ◌+◌, ◌≤◌, ◌<◌, List, [], ◌∷◌, length, get_or, take, drop, Bor, Option, Some, None, eqb, refl, sym, ap, ◌∙◌, arith, le-leb, eqb-true}
use mathlib.Core.Bool.{Bool, true, false, ◌&&◌, and-false, and-true}
use Rattle.std.specs.List.{list_all}
use Rattle.std.specs.Option.{MatchOption, unwrap_or}
use Rattle.std.specs.Cmp.Lexicographic.{pointwise}
use Rattle.std.specs.Char.{is_ascii_digit}
use Rattle.std.proofs.lemmas.Bool.{lt-leb}
use Rattle.std.proofs.lemmas.List.Recursion.{same_from_clauses}
use Rattle.integers.specs.Integer.{MINUS, ZERO, NINE, digit, digits, counting, empty, is_integer}
use Rattle.integers.specs.Signed.{sign_cases}

-- all are digits
digits_all : (s : List ℕ) → list_all is_ascii_digit s ≡ digits s
unfolding digits digit
digits_all = same_from_clauses (list_all is_ascii_digit) digits (λ b r. is_ascii_digit b && r) refl (λ _ _. refl) (λ _ _. refl)

pub counting_none : (s : List ℕ) → length s < 1 → false ≡ counting s
unfolding counting
counting_none [] h = refl
counting_none (b ∷ s) h = absurd (omega arith)

pub counting_low : (s : List ℕ) → get_or s 0 0 < 49 → false ≡ counting s
unfolding counting
counting_low [] h = refl
counting_low (b ∷ s) h = sym (simp (lt-leb 49 b h))

pub counting_high : (s : List ℕ) → NINE < get_or s 0 0 → false ≡ counting s
unfolding counting
counting_high [] h = refl
counting_high (b ∷ s) h = sym (simp (lt-leb b NINE h, and-false))

pub counting_rest : (s : List ℕ) → 49 ≤ get_or s 0 0 → get_or s 0 0 ≤ NINE → (d : Bool) → d ≡ list_all is_ascii_digit (drop 1 s) → d ≡ counting s
unfolding counting
counting_rest [] l h d e = absurd (omega arith)
counting_rest (b ∷ s) l h d e = e ∙ (digits_all s ∙ sym (simp (le-leb 49 b l, le-leb b NINE h)))

-- ---- an integer's text

-- whether the text is `0`, and whether a minus leads, as `==` and `strip_prefix` tell it
abbrev pub is_zero : List ℕ → Bool
is_zero s = pointwise eqb s (ZERO ∷ [])

abbrev pub minus_leads : List ℕ → Bool
minus_leads s = pointwise eqb (take 1 s) (MINUS ∷ [])

pub first_is : (b : ℕ) (s : List ℕ) → minus_leads (b ∷ s) ≡ eqb b MINUS
first_is b s = and-true (eqb b MINUS)

pub zero_integer : (s : List ℕ) (r : Bool) → r ≡ is_zero s → r ≡ true → r ≡ is_integer s
unfolding is_integer empty
zero_integer [] r h k = cc
zero_integer (b ∷ []) r h k = let e = eqb-true b ZERO (sym (and-true (eqb b ZERO)) ∙ (sym h ∙ k)) in rw e k
zero_integer (b ∷ c ∷ s) r h k = let e = and-false (eqb b ZERO) in cc

pub minus_integer : (s : List ℕ) → minus_leads s ≡ true → counting (drop 1 s) ≡ is_integer s
unfolding is_integer
minus_integer [] h = cc
minus_integer (b ∷ s) h = sym (sign_cases b s true (eqb b ZERO) (sym (first_is b s) ∙ h) refl)

-- more bytes behind a zero
zero_more : (b : ℕ) (s : List ℕ) → is_zero (b ∷ s) ≡ false → (z : Bool) → eqb b ZERO ≡ z → minus_leads (b ∷ s) ≡ false → counting (b ∷ s) ≡ is_integer (b ∷ s)
unfolding counting empty
zero_more b s h false z m = sym (sign_cases b s false false (sym (first_is b s) ∙ m) z)
zero_more b [] h true z m = let e = and-true (eqb b ZERO) in cc
zero_more b (c ∷ s) h true z m =
    counting_low' ∙ sym (sign_cases b (c ∷ s) false true (sym (first_is b (c ∷ s)) ∙ m) z)
  where
    counting_low' : counting (b ∷ c ∷ s) ≡ false
    counting_low' = let e = eqb-true b ZERO z in rw e refl

pub plain_integer : (s : List ℕ) → is_zero s ≡ false → minus_leads s ≡ false → counting s ≡ is_integer s
unfolding counting is_integer
plain_integer [] h m = refl
plain_integer (b ∷ s) h m = zero_more b s h (eqb b ZERO) refl m

pub rest_integer : (s : List ℕ) → is_zero s ≡ false → (o : Option (Bor (List ℕ))) (whole : Bor (List ℕ)) → whole.now ≡ s
    → MatchOption o (minus_leads s ≡ false) (λ x. (minus_leads s ≡ true) × (x.now ≡ drop 1 s) × (length x.now + 1 ≡ length s))
    → counting (unwrap_or o whole).now ≡ is_integer s
rest_integer s z None whole e h = ap counting e ∙ plain_integer s z h
rest_integer s z (Some x) whole e h = ap counting h.1 ∙ minus_integer s h.0
