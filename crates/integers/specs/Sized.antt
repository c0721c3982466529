-- DIGITS WITHOUT LEADING ZEROS, BY LENGTH AND THEN BYTE BY BYTE, STAND AS THE INTEGERS THAT THEY DENOTE. Assumes nothing.
use Rattle.std.specs.Prelude.{◌≡◌, refl, List, [], ◌∷◌, ℕ, zero, suc, ◌+◌, ◌*◌, ◌-◌, ◌≤◌, ◌<◌, length, leb, pos, neg_ℤ}
use Rattle.std.proofs.Common.{subst, arith, lt-ltb, le-ltb, le-leb, leb-true}
use mathlib.Core.Bool.{Bool, true, false, ◌&&◌, and-eq-true_iff}
use Rattle.std.proofs.Math.Nat.{suc_inj}
use Rattle.std.specs.Ordering.{MatchOrdering, nat_cmp, ordering_then}
use Rattle.std.specs.Cmp.Lexicographic.{slice_cmp}
use Rattle.std.specs.declared.cmp.Ordering.{Ordering}
use Rattle.std.specs.declared.cmp.Ordering.TheVariants.{Less, Equal, Greater}
use Rattle.std.proofs.lemmas.Cmp.{ranked}
use Rattle.integers.specs.Integer.{ZERO, NINE, digit, digits, counting, natural}
use Rattle.integers.specs.Order.{order_of}
use Rattle.integers.specs.Contract.{by_size}

-- what an answer says of two numbers
abbrev pub Says : Ordering → ℕ → ℕ → Type 0
Says Less x y = x < y
Says Equal x y = x ≡ y
Says Greater x y = y < x

-- ---- digits

pub digit_top : (b : ℕ) (s : List ℕ) → digits (b ∷ s) ≡ true → b ≤ NINE
unfolding digits digit
digit_top b s h = leb-true b NINE ((and-eq-true_iff (leb ZERO b) (leb b NINE)).0 ((and-eq-true_iff (leb ZERO b && leb b NINE) (digits s)).0 h).0).1

pub digit_bottom : (b : ℕ) (s : List ℕ) → digits (b ∷ s) ≡ true → ZERO ≤ b
unfolding digits digit
digit_bottom b s h = leb-true ZERO b ((and-eq-true_iff (leb ZERO b) (leb b NINE)).0 ((and-eq-true_iff (leb ZERO b && leb b NINE) (digits s)).0 h).0).0

pub digits_rest : (b : ℕ) (s : List ℕ) → digits (b ∷ s) ≡ true → digits s ≡ true
unfolding digits
digits_rest b s h = ((and-eq-true_iff (digit b) (digits s)).0 h).1

-- ---- the numbers of two runs of digits

natural_grows : (s : List ℕ) (n : ℕ) → n ≤ natural n s
unfolding natural
natural_grows [] n = omega arith
natural_grows (b ∷ s) n = let h = natural_grows s (10 * n + (b - ZERO)) in omega arith

-- a smaller front stays smaller, if no fewer digits follow the greater
natural_less : (s t : List ℕ) (n m : ℕ) → n < m → length s ≤ length t → digits s ≡ true → natural n s < natural m t
unfolding natural
natural_less [] t n m l k d = let h = natural_grows t m in omega arith
natural_less (b ∷ s) [] n m l k d = absurd (omega arith)
natural_less (b ∷ s) (c ∷ t) n m l k d =
    let top = digit_top b s d in
    natural_less s t (10 * n + (b - ZERO)) (10 * m + (c - ZERO)) (omega arith) (omega arith) (digits_rest b s d)

-- the digits behind n, one more
abbrev front : ℕ → ℕ → ℕ
front n b = 10 * n + (b - ZERO)

-- two runs of one length, by their first bytes and what is said of the rest
bytes_step : (b c : ℕ) (s t : List ℕ) (n : ℕ) → length s ≡ length t → digits (b ∷ s) ≡ true → digits (c ∷ t) ≡ true
    → Says (slice_cmp nat_cmp s t) (natural (front n b) s) (natural (front n b) t)
    → Says (slice_cmp nat_cmp (b ∷ s) (c ∷ t)) (natural n (b ∷ s)) (natural n (c ∷ t))
unfolding natural
bytes_step b c s t n l d e rest = go (nat_cmp b c) (ranked b c _ refl)
  where
    go : (o : Ordering) → MatchOrdering o (b < c) (b ≡ c) (c < b)
        → Says (ordering_then o (slice_cmp nat_cmp s t)) (natural (front n b) s) (natural (front n c) t)
    go Less k = let z = digit_bottom b s d in natural_less s t (front n b) (front n c) (omega arith) (omega arith) (digits_rest b s d)
    go Equal h = subst (λ x. Says (slice_cmp nat_cmp s t) (natural (front n b) s) (natural (front n x) t)) h rest
    go Greater k = let z = digit_bottom c t e in natural_less t s (front n c) (front n b) (omega arith) (omega arith) (digits_rest c t e)

bytes_say : (s t : List ℕ) (n : ℕ) → length s ≡ length t → digits s ≡ true → digits t ≡ true
    → Says (slice_cmp nat_cmp s t) (natural n s) (natural n t)
unfolding natural
bytes_say [] [] n l d e = refl
bytes_say [] (c ∷ t) n l d e = absurd (omega arith)
bytes_say (b ∷ s) [] n l d e = absurd (omega arith)
bytes_say (b ∷ s) (c ∷ t) n l d e =
    bytes_step b c s t n (suc_inj l) d e (bytes_say s t (front n b) (suc_inj l) (digits_rest b s d) (digits_rest c t e))

-- equal bytes are equal texts
pub bytes_equal : (s t : List ℕ) → slice_cmp nat_cmp s t ≡ Equal → s ≡ t
bytes_equal [] [] h = refl
bytes_equal [] (c ∷ t) h = cc
bytes_equal (b ∷ s) [] h = cc
bytes_equal (b ∷ s) (c ∷ t) h = go (nat_cmp b c) (ranked b c _ refl) (bytes_equal s t) h
  where
    go : (o : Ordering) → MatchOrdering o (b < c) (b ≡ c) (c < b) → (slice_cmp nat_cmp s t ≡ Equal → s ≡ t)
        → ordering_then o (slice_cmp nat_cmp s t) ≡ Equal → b ∷ s ≡ c ∷ t
    go Less k ih h = cc
    go Equal e ih h = let f = ih h in cc
    go Greater k ih h = cc

-- ---- digits without leading zeros

-- digits of which none leads with a zero that more digits follow
pub record Numeral (s : List ℕ) : Type 0 where
  pub all : digits s ≡ true
  pub some : 0 < length s
  pub lead : 1 < length s → counting s ≡ true

counting_first : (b : ℕ) (s : List ℕ) → counting (b ∷ s) ≡ true → ZERO + 1 ≤ b
unfolding counting
counting_first b s h = leb-true (ZERO + 1) b ((and-eq-true_iff (leb (ZERO + 1) b) (leb b NINE && digits s)).0 h).0

counting_digits : (b : ℕ) (s : List ℕ) → counting (b ∷ s) ≡ true → digits (b ∷ s) ≡ true
unfolding counting digits digit
counting_digits b s h =
    let k = counting_first b s h in
    let rest = (and-eq-true_iff (leb b NINE) (digits s)).0 ((and-eq-true_iff (leb (ZERO + 1) b) (leb b NINE && digits s)).0 h).1 in
    simp (le-leb ZERO b (omega arith), rest.0, rest.1)

pub counting_numeral : (s : List ℕ) → counting s ≡ true → Numeral s
unfolding counting
counting_numeral [] h = absurd (mathlib.Core.Bool.false≢true h)
counting_numeral (b ∷ s) h = record { all = counting_digits b s h; some = omega arith; lead = λ _. h }

pub counting_positive : (s : List ℕ) → counting s ≡ true → 0 < natural 0 s
unfolding counting natural
counting_positive [] h = absurd (mathlib.Core.Bool.false≢true h)
counting_positive (b ∷ s) h = let k = counting_first b s h in let g = natural_grows s (10 * 0 + (b - ZERO)) in omega arith

-- fewer digits denote less
fewer_less : (s t : List ℕ) → Numeral s → Numeral t → length s < length t → natural 0 s < natural 0 t
unfolding natural
fewer_less s [] p q l = absurd (omega arith)
fewer_less s (c ∷ t) p q l =
    let k = counting_first c t (q.lead (omega (arith, p.some))) in
    natural_less s t 0 (10 * 0 + (c - ZERO)) (omega arith) (omega arith) p.all

pub size_say : (s t : List ℕ) → Numeral s → Numeral t → Says (by_size s t) (natural 0 s) (natural 0 t)
unfolding by_size
size_say s t p q = go (nat_cmp (length s) (length t)) (ranked (length s) (length t) _ refl)
  where
    go : (o : Ordering) → MatchOrdering o (length s < length t) (length s ≡ length t) (length t < length s)
        → Says (ordering_then o (slice_cmp nat_cmp s t)) (natural 0 s) (natural 0 t)
    go Less k = fewer_less s t p q k
    go Equal k = bytes_say s t 0 k p.all q.all
    go Greater k = fewer_less t s q p k

-- ---- integers

-- what is said of two numbers is the order of the integers
pub says_order : (c : Ordering) (x y : ℕ) → Says c x y → c ≡ order_of (pos x) (pos y)
unfolding order_of
says_order Less x y h = simp (lt-ltb x y h)
says_order Equal x y h = let a : y ≤ x = omega arith in let b : x ≤ y = omega arith in simp (le-ltb x y a, le-ltb y x b)
says_order Greater x y h = let a : y ≤ x = omega arith in simp (le-ltb x y a, lt-ltb y x h)

-- and the other way round below zero
pub says_negated : (c : Ordering) (x y : ℕ) → 0 < x → 0 < y → Says c y x → c ≡ order_of (neg_ℤ (pos x)) (neg_ℤ (pos y))
unfolding order_of
says_negated c zero y p q h = absurd (omega arith)
says_negated c (suc x) zero p q h = absurd (omega arith)
says_negated Less (suc x) (suc y) p q h = let a : y < x = omega arith in simp (lt-ltb y x a)
says_negated Equal (suc x) (suc y) p q h = let a : y ≤ x = omega arith in let b : x ≤ y = omega arith in simp (le-ltb x y a, le-ltb y x b)
says_negated Greater (suc x) (suc y) p q h = let a : x < y = omega arith in let b : x ≤ y = omega arith in simp (le-ltb y x b, lt-ltb x y a)
