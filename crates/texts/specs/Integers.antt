-- AN INTEGER'S TEXT by its first byte and by the digits that follow (`Number`). Assumes nothing.
use Rattle.std.specs.Prelude.{◌≡◌, refl, Bool, true, false, ◌&&◌, List, [], ◌∷◌, ◌⊎◌, ℕ, suc, ◌≤◌, leb, eqb, length, get_or, drop}
use Rattle.std.proofs.Common.{sym, ap, ◌∙◌, inl, inr, arith, get_or-drop, leb-true, le-leb, eq-eqb, ne_eqb}
use Rattle.notation.specs.Class.{is, within, ◌to◌}
use Rattle.exact.specs.Class.{clash, or_of, range_of}
use Rattle.exact.specs.Tells.{Tells, tells_map}
use Rattle.language.specs.Scalars.{digit}
use Rattle.integers.specs.Integer as I
use Rattle.integers.specs.Signed.{sign_cases}
use Rattle.shaped.specs.Shaped.{Digits, digits_none, digits_more, Number, number}
use Rattle.texts.specs.Scalars.{tells_test}

-- ---- digits, as the definition of integers and as that of floats have them

both : (a b : Bool) → (a && b) ≡ true → (a ≡ true) × (b ≡ true)
both true b e = (refl, e)
both false b e = absurd (clash e refl)

digit_is : (b : ℕ) → leb 48 b ≡ true → leb b 57 ≡ true → is digit b ≡ true
digit_is b p q = rw (p, q) refl

digit_of_lem : (b : ℕ) → is digit b ≡ true → (48 ≤ b) × (b ≤ 57)
digit_of_lem b e = by (or_of (within (48 to 57) b) false e)
  where
    by : (within (48 to 57) b ≡ true) ⊎ (false ≡ true) → (48 ≤ b) × (b ≤ 57)
    by (inl x) = range_of 48 57 b x
    by (inr x) = absurd (clash x refl)

digits_there : (x : List ℕ) → I.digits x ≡ true → Digits x
unfolding I.digits I.digit
digits_there [] e = digits_none
digits_there (b ∷ x) e =
    let p = both (leb 48 b && leb b 57) (I.digits x) e in
    let q = both (leb 48 b) (leb b 57) p.0 in
    digits_more (digit_is b q.0 q.1) (digits_there x p.1)

digits_back : {x : List ℕ} → Digits x → I.digits x ≡ true
unfolding I.digits I.digit
digits_back digits_none = refl
digits_back (digits_more {d = b} e x) = let p = digit_of_lem b e in rw (le-leb 48 b p.0, le-leb b 57 p.1, digits_back x) refl

-- ---- digits without a leading zero

counting_there : (x : List ℕ) → I.counting x ≡ true → Number x
unfolding I.counting
counting_there [] e = absurd (clash e refl)
counting_there (b ∷ x) e =
    let p = both (leb 49 b) (leb b 57 && I.digits x) e in
    let q = both (leb b 57) (I.digits x) p.1 in
    let l = leb-true 49 b p.0 in
    number (digit_is b (le-leb 48 b (omega arith)) q.0) (digits_there x q.1)

counting_back : {x : List ℕ} → (get_or x 0 0 ≡ 48 → ⊥) → Number x → I.counting x ≡ true
unfolding I.counting
counting_back f (number {d = b} e x) = let p = digit_of_lem b e in rw (le-leb 49 b (omega (arith, f)), le-leb b 57 p.1, digits_back x) refl

counting_not : (x : List ℕ) → get_or x 0 0 ≡ 48 → I.counting x ≡ true → ⊥
unfolding I.counting
counting_not [] f e = omega arith
counting_not (b ∷ x) f e = let l = leb-true 49 b (both (leb 49 b) (leb b 57 && I.digits x) e).0 in omega arith

module _ (s : List ℕ) (at b : ℕ) (here : b ≡ get_or s at 0) where
  first : get_or (drop at s) 0 0 ≡ b
  first = get_or-drop at s 0 0 ∙ (ap (λ j. get_or s j 0) (omega arith) ∙ sym here)

  pub counting_zero : b ≡ 48 → I.counting (drop at s) ≡ true → ⊥
  counting_zero e = counting_not (drop at s) (first ∙ e)

  pub counting_told : (b ≡ 48 → ⊥) → (r : Bool) → Tells (Number (drop at s)) r → Tells (I.counting (drop at s) ≡ true) r
  counting_told f r t = tells_map (counting_back (λ e. f (sym first ∙ e))) (counting_there (drop at s)) r t

-- ---- an integer

one_byte : (s : List ℕ) → eqb (suc (length s)) 1 ≡ I.empty s
unfolding I.empty
one_byte [] = refl
one_byte (b ∷ s) = ne_eqb (suc (suc (length s))) 1 (omega arith)

zero_is : (s : List ℕ) → get_or s 0 0 ≡ 48 → eqb (length s) 1 ≡ I.is_integer s
zero_is [] e = absurd (omega arith)
zero_is (b ∷ s) e = one_byte s ∙ sym (sign_cases b s false true (ne_eqb b 45 (omega arith)) (eq-eqb b 48 e))

minus_is : (s : List ℕ) → get_or s 0 0 ≡ 45 → I.counting (drop 1 s) ≡ I.is_integer s
minus_is [] e = absurd (omega arith)
minus_is (b ∷ s) e = sym (sign_cases b s true (eqb b 48) (eq-eqb b 45 e) refl)

plain_is : (s : List ℕ) → (get_or s 0 0 ≡ 45 → ⊥) → (get_or s 0 0 ≡ 48 → ⊥) → I.counting s ≡ I.is_integer s
unfolding I.counting I.is_integer
plain_is [] m z = refl
plain_is (b ∷ s) m z = sym (sign_cases b s false false (ne_eqb b 45 m) (ne_eqb b 48 z))

module _ (s : List ℕ) (b : ℕ) (here : b ≡ get_or s 0 0) where
  pub integer_zero : (n : ℕ) → n ≡ length s → b ≡ 48 → Tells (I.is_integer s ≡ true) (eqb n 1)
  integer_zero n l e = tells_test (I.is_integer s) (eqb n 1) (ap (λ k. eqb k 1) l ∙ zero_is s (sym here ∙ e))

  pub integer_minus : b ≡ 45 → (r : Bool) → Tells (I.counting (drop 1 s) ≡ true) r → Tells (I.is_integer s ≡ true) r
  integer_minus e r t = rw (minus_is s (sym here ∙ e)) at t

  pub integer_plain : (b ≡ 48 → ⊥) → (b ≡ 45 → ⊥) → (r : Bool) → Tells (I.counting (drop 0 s) ≡ true) r → Tells (I.is_integer s ≡ true) r
  integer_plain z m r t = rw (plain_is s (λ e. m (here ∙ e)) (λ e. z (here ∙ e))) at t
