-- Laws of comparing. Assumes nothing.
use Rattle.std.proofs.Common.{◌≡◌, ℕ, List, [], ◌∷◌, drop, sym, ap, ◌∙◌, eqb-true, Ok}
use mathlib.Core.Bool.{true, false}
use Rattle.std.specs.Ordering.{MatchOrdering, ordering_then}
use Rattle.std.specs.declared.cmp.Ordering.{Ordering}
use Rattle.std.specs.declared.cmp.Ordering.TheVariants.{Less, Equal, Greater}
use Rattle.std.proofs.lemmas.Bool.{eqb-false}
use Rattle.integers.specs.Integer.{MINUS, is_integer, integer}
use Rattle.integers.specs.Order.{order_of, not_int, compared_verdict, compared}
use Rattle.integers.specs.Contract.{by_size, Integers, Ordered}
use Rattle.integers.proofs.NumeralLaws.{minus_leads, first_is}
use Rattle.integers.specs.Signed.{minus_minus, minus_plain, plain_minus, plain_plain}

-- what `then_with` answers, where its function answers x
pub then_answers : {P : Type 0} (o r x : Ordering) → MatchOrdering o (r ≡ Less) P (r ≡ Greater) → (P → r ≡ x) → r ≡ ordering_then o x
then_answers Less r x h f = h
then_answers Equal r x h f = f h
then_answers Greater r x h f = h

-- ---- by the signs

module _ (left right : List ℕ) (both : Integers left right) where
  pub order_minuses : minus_leads left ≡ true → minus_leads right ≡ true → (r : Ordering) → r ≡ by_size (drop 1 right) (drop 1 left) → Ordered left right r
  unfolding is_integer
  order_minuses m n r h = h ∙ go left right both.on_left both.on_right m n
    where
      go : (left right : List ℕ) → is_integer left ≡ true → is_integer right ≡ true → minus_leads left ≡ true → minus_leads right ≡ true
          → by_size (drop 1 right) (drop 1 left) ≡ order_of (integer left) (integer right)
      go [] right p q e f = cc
      go (b ∷ s) [] p q e f = cc
      go (b ∷ s) (c ∷ t) p q e f = minus_minus b c s t p q (eqb-true b MINUS (sym (first_is b s) ∙ e)) (eqb-true c MINUS (sym (first_is c t) ∙ f))

  pub order_lesser : minus_leads left ≡ true → minus_leads right ≡ false → Ordered left right Less
  unfolding is_integer
  order_lesser m n = go left right both.on_left both.on_right m n
    where
      go : (left right : List ℕ) → is_integer left ≡ true → is_integer right ≡ true → minus_leads left ≡ true → minus_leads right ≡ false
          → Less ≡ order_of (integer left) (integer right)
      go [] right p q e f = cc
      go (b ∷ s) [] p q e f = cc
      go (b ∷ s) (c ∷ t) p q e f = minus_plain b c s t p q (eqb-true b MINUS (sym (first_is b s) ∙ e)) (eqb-false c MINUS (sym (first_is c t) ∙ f))

  pub order_greater : minus_leads left ≡ false → minus_leads right ≡ true → Ordered left right Greater
  unfolding is_integer
  order_greater m n = go left right both.on_left both.on_right m n
    where
      go : (left right : List ℕ) → is_integer left ≡ true → is_integer right ≡ true → minus_leads left ≡ false → minus_leads right ≡ true
          → Greater ≡ order_of (integer left) (integer right)
      go [] right p q e f = cc
      go (b ∷ s) [] p q e f = cc
      go (b ∷ s) (c ∷ t) p q e f = plain_minus b c s t p q (eqb-false b MINUS (sym (first_is b s) ∙ e)) (eqb-true c MINUS (sym (first_is c t) ∙ f))

  pub order_plains : minus_leads left ≡ false → minus_leads right ≡ false → (r : Ordering) → r ≡ by_size left right → Ordered left right r
  unfolding is_integer
  order_plains m n r h = h ∙ go left right both.on_left both.on_right m n
    where
      go : (left right : List ℕ) → is_integer left ≡ true → is_integer right ≡ true → minus_leads left ≡ false → minus_leads right ≡ false
          → by_size left right ≡ order_of (integer left) (integer right)
      go [] right p q e f = cc
      go (b ∷ s) [] p q e f = cc
      go (b ∷ s) (c ∷ t) p q e f = plain_plain b c s t p q (eqb-false b MINUS (sym (first_is b s) ∙ e)) (eqb-false c MINUS (sym (first_is c t) ∙ f))

-- ---- with the tests before it

module _ (left right : List ℕ) where
  pub compare_left : is_integer left ≡ false → compared_verdict not_int ≡ compared left right
  unfolding compared
  compare_left n = simp n

  pub compare_right : is_integer left ≡ true → is_integer right ≡ false → compared_verdict not_int ≡ compared left right
  unfolding compared
  compare_right y n = simp (y, n)

  pub compare_both : is_integer left ≡ true → is_integer right ≡ true → (r : Ordering) → Ordered left right r → compared_verdict (Ok r) ≡ compared left right
  unfolding compared
  compare_both y z r h = simp (y, z) (ap (λ o. compared_verdict (Ok o)) h)
