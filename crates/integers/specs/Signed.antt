-- AN INTEGER'S TEXT BY ITS SIGN, AND THAT TWO TEXTS OF ONE INTEGER ARE ONE TEXT. Assumes nothing.
use Rattle.std.specs.Prelude.{◌≡◌, List, [], ◌∷◌, ℕ, zero, suc, ◌<◌, length, eqb, ℤ, pos, negsuc, neg_ℤ}
use Rattle.std.proofs.Math.Path.{refl}
use Rattle.std.proofs.Common.{sym, subst, ◌∙◌, arith, le_refl, le-ltb, eq-eqb, ne_eqb}
use mathlib.Core.Bool.{Bool, true, false}
use Rattle.std.proofs.Math.Decide.{ℕ_discrete}
use Rattle.language.specs.Kind.{pick}
use Rattle.std.specs.Ordering.{nat_cmp, ordering_then}
use Rattle.std.specs.Cmp.Lexicographic.{slice_cmp}
use Rattle.std.specs.declared.cmp.Ordering.{Ordering}
use Rattle.std.specs.declared.cmp.Ordering.TheVariants.{Less, Equal, Greater}
use Rattle.integers.specs.Integer.{MINUS, ZERO, digit, digits, counting, empty, is_integer, natural, integer}
use Rattle.integers.specs.Order.{order_of}
use Rattle.integers.specs.Contract.{by_size}
use Rattle.integers.specs.Sized.{Numeral, counting_numeral, counting_positive, bytes_equal, size_say, says_order, says_negated}

-- ---- one text

pub sign_cases : (b : ℕ) (s : List ℕ) (m z : Bool) → eqb b MINUS ≡ m → eqb b ZERO ≡ z
    → is_integer (b ∷ s) ≡ pick m (counting s) (pick z (empty s) (counting (b ∷ s)))
unfolding is_integer
sign_cases b s m z p q = rw (← p, ← q) refl

pub negative_rest : (b : ℕ) (s : List ℕ) → is_integer (b ∷ s) ≡ true → b ≡ MINUS → counting s ≡ true
negative_rest b s h e = sym (sign_cases b s true (eqb b ZERO) (eq-eqb b MINUS e) refl) ∙ h

zero_numeral : (b : ℕ) (s : List ℕ) → b ≡ ZERO → empty s ≡ true → Numeral (b ∷ s)
unfolding empty digits digit
zero_numeral b [] e h = record { all = rw e refl; some = omega arith; lead = λ l. absurd (omega arith) }
zero_numeral b (c ∷ s) e h = absurd (mathlib.Core.Bool.false≢true h)

pub plain_numeral : (b : ℕ) (s : List ℕ) → is_integer (b ∷ s) ≡ true → (b ≡ MINUS → ⊥) → Numeral (b ∷ s)
plain_numeral b s h n = go (ℕ_discrete b ZERO)
  where
    go : Dec (b ≡ ZERO) → Numeral (b ∷ s)
    go (yes e) = zero_numeral b s e (sym (sign_cases b s false true (ne_eqb b MINUS n) (eq-eqb b ZERO e)) ∙ h)
    go (no e) = counting_numeral (b ∷ s) (sym (sign_cases b s false false (ne_eqb b MINUS n) (ne_eqb b ZERO e)) ∙ h)

pub negative_value : (b : ℕ) (s : List ℕ) → b ≡ MINUS → integer (b ∷ s) ≡ neg_ℤ (pos (natural 0 s))
unfolding integer
negative_value b s e = simp (eq-eqb b MINUS e)

pub plain_value : (b : ℕ) (s : List ℕ) → (b ≡ MINUS → ⊥) → integer (b ∷ s) ≡ pos (natural 0 (b ∷ s))
unfolding integer
plain_value b s n = simp (ne_eqb b MINUS n)

-- ---- two texts, by their signs

both_negative : (s t : List ℕ) → counting s ≡ true → counting t ≡ true
    → by_size t s ≡ order_of (neg_ℤ (pos (natural 0 s))) (neg_ℤ (pos (natural 0 t)))
both_negative s t p q =
    says_negated (by_size t s) (natural 0 s) (natural 0 t) (counting_positive s p) (counting_positive t q)
    (size_say t s (counting_numeral t q) (counting_numeral s p))

below_zero : (x : ℕ) → 0 < x → (n : ℕ) × (neg_ℤ (pos x) ≡ negsuc n)
below_zero zero h = absurd (omega arith)
below_zero (suc x) h = (x, refl)

module _ (b c : ℕ) (s t : List ℕ) (p : is_integer (b ∷ s) ≡ true) (q : is_integer (c ∷ t) ≡ true) where
  pub minus_minus : b ≡ MINUS → c ≡ MINUS → by_size t s ≡ order_of (integer (b ∷ s)) (integer (c ∷ t))
  minus_minus e f = rw (negative_value b s e, negative_value c t f) (both_negative s t (negative_rest b s p e) (negative_rest c t q f))

  pub minus_plain : b ≡ MINUS → (c ≡ MINUS → ⊥) → Less ≡ order_of (integer (b ∷ s)) (integer (c ∷ t))
  unfolding order_of
  minus_plain e f =
      let n = below_zero (natural 0 s) (counting_positive s (negative_rest b s p e)) in
      rw (negative_value b s e, plain_value c t f, n.1) refl

  pub plain_minus : (b ≡ MINUS → ⊥) → c ≡ MINUS → Greater ≡ order_of (integer (b ∷ s)) (integer (c ∷ t))
  unfolding order_of
  plain_minus e f =
      let n = below_zero (natural 0 t) (counting_positive t (negative_rest c t q f)) in
      rw (plain_value b s e, negative_value c t f, n.1) refl

  pub plain_plain : (b ≡ MINUS → ⊥) → (c ≡ MINUS → ⊥) → by_size (b ∷ s) (c ∷ t) ≡ order_of (integer (b ∷ s)) (integer (c ∷ t))
  plain_plain e f =
      rw (plain_value b s e, plain_value c t f)
      (says_order (by_size (b ∷ s) (c ∷ t)) (natural 0 (b ∷ s)) (natural 0 (c ∷ t))
      (size_say (b ∷ s) (c ∷ t) (plain_numeral b s p e) (plain_numeral c t q f)))

-- ---- one integer, one text

size_equal : (s t : List ℕ) → by_size s t ≡ Equal → s ≡ t
unfolding by_size
size_equal s t = go (nat_cmp (length s) (length t))
  where
    go : (o : Ordering) → ordering_then o (slice_cmp nat_cmp s t) ≡ Equal → s ≡ t
    go Less h = cc
    go Equal h = bytes_equal s t h
    go Greater h = cc

pub order_self : (x : ℤ) → order_of x x ≡ Equal
unfolding order_of
order_self (pos n) = simp (le-ltb n n (le_refl n))
order_self (negsuc n) = simp (le-ltb n n (le_refl n))

order_same : (x y : ℤ) → x ≡ y → order_of x y ≡ Equal
order_same x y e = subst (λ z. order_of x z ≡ Equal) e (order_self x)

same_signs : (b c : ℕ) (s t : List ℕ) → is_integer (b ∷ s) ≡ true → is_integer (c ∷ t) ≡ true → integer (b ∷ s) ≡ integer (c ∷ t)
    → Dec (b ≡ MINUS) → Dec (c ≡ MINUS) → b ∷ s ≡ c ∷ t
same_signs b c s t p q e (yes m) (yes n) =
    let f = size_equal t s (minus_minus b c s t p q m n ∙ order_same (integer (b ∷ s)) (integer (c ∷ t)) e) in
    cc
same_signs b c s t p q e (yes m) (no n) =
    let f = minus_plain b c s t p q m n ∙ order_same (integer (b ∷ s)) (integer (c ∷ t)) e in
    cc
same_signs b c s t p q e (no m) (yes n) =
    let f = plain_minus b c s t p q m n ∙ order_same (integer (b ∷ s)) (integer (c ∷ t)) e in
    cc
same_signs b c s t p q e (no m) (no n) =
    size_equal (b ∷ s) (c ∷ t) (plain_plain b c s t p q m n ∙ order_same (integer (b ∷ s)) (integer (c ∷ t)) e)

-- two integers' texts that denote one integer are one text
pub one_text : (a b : List ℕ) → is_integer a ≡ true → is_integer b ≡ true → integer a ≡ integer b → a ≡ b
unfolding is_integer
one_text [] b p q e = absurd (mathlib.Core.Bool.false≢true p)
one_text (x ∷ s) [] p q e = absurd (mathlib.Core.Bool.false≢true q)
one_text (x ∷ s) (y ∷ t) p q e = same_signs x y s t p q e (ℕ_discrete x MINUS) (ℕ_discrete y MINUS)
