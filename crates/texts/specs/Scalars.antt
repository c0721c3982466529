-- THE TEXT OF A SCALAR OF A KIND: what each kind asks of its text. Assumes nothing.
use Rattle.std.specs.Prelude.{◌≡◌, refl, Bool, true, false, List, [], ◌∷◌, ℕ, zero, suc, ◌+◌, ◌-◌, ◌≤◌, ◌<◌, eqb, length, get_or, take, drop}
use Rattle.std.proofs.Common.{sym, ap, ◌∙◌, arith, eqb-true}
use Rattle.std.proofs.Math.Seq.{slice}
use Rattle.std.proofs.lemmas.Bool.{eqb-false}
use Rattle.exact.specs.Class.{clash}
use Rattle.exact.specs.Place.{slice_at}
use Rattle.exact.specs.Tells.{Tells, tells_map}
use Rattle.integers.specs.Integer.{is_integer}
use Rattle.shaped.specs.Shaped.{Scripted, FloatText, Octets, octets_none, octets_more, Scalar, is_null, is_false, is_true, is_an_integer, is_float, is_string, is_bytes}

-- a part of the room, as code and as the contracts have it
part : (a e : ℕ) (l : List ℕ) → a ≤ e → take (e - a) (drop a l) ≡ slice a e l
part a e l h = let k : a + (e - a) ≡ e = omega arith in slice_at a (e - a) l ∙ ap (λ (n : ℕ). slice a n l) k

pub part_told : (P : List ℕ → Type 0) (a e : ℕ) (l : List ℕ) → a ≤ e → (r : Bool) → Tells (P (take (e - a) (drop a l))) r → Tells (P (slice a e l)) r
part_told P a e l h r t = rw (part a e l h) at t

-- an answer that is a test's tells whether the test holds
pub tells_test : (x r : Bool) → r ≡ x → Tells (x ≡ true) r
tells_test x true e = sym e
tells_test x false e = λ f. clash f (sym e)

-- ---- kinds whose text is tested

module _ (k : ℕ) (s : List ℕ) (r : Bool) where
  pub scalar_integer : k ≡ 4 → Tells (is_integer s ≡ true) r → Tells (Scalar k s) r
  scalar_integer e t = rw e (tells_map (λ x. is_an_integer x) back r t)
    where
      back : {s : List ℕ} → Scalar 4 s → is_integer s ≡ true
      back (is_an_integer x) = x

  pub scalar_float : k ≡ 5 → Tells (FloatText s) r → Tells (Scalar k s) r
  scalar_float e t = rw e (tells_map (λ x. is_float x) back r t)
    where
      back : {s : List ℕ} → Scalar 5 s → FloatText s
      back (is_float x) = x

  pub scalar_string : k ≡ 6 → Tells (Scripted s) r → Tells (Scalar k s) r
  scalar_string e t = rw e (tells_map (λ x. is_string x) back r t)
    where
      back : {s : List ℕ} → Scalar 6 s → Scripted s
      back (is_string x) = x

-- ---- bytes

octets : (l : List ℕ) → ((i : ℕ) → get_or l i 0 < 256) → Octets l
octets [] h = octets_none
octets (b ∷ l) h = octets_more (h 0) (octets l (λ i. h (suc i)))

pub scalar_bytes : (k : ℕ) (s : List ℕ) → k ≡ 7 → ((i : ℕ) → get_or s i 0 < 256) → Scalar k s
scalar_bytes k s z h = rw z (is_bytes (octets s h))

-- ---- kinds that have no text, and those that are no scalar's

bare : (k : ℕ) → 1 ≤ k → k < 4 → Scalar k []
bare zero l h = absurd (omega arith)
bare (suc zero) l h = is_null
bare (suc (suc zero)) l h = is_false
bare (suc (suc (suc zero))) l h = is_true
bare (suc (suc (suc (suc k)))) l h = absurd (omega arith)

bare_empty : {k : ℕ} {s : List ℕ} → Scalar k s → k < 4 → length s ≡ 0
bare_empty is_null h = refl
bare_empty is_false h = refl
bare_empty is_true h = refl
bare_empty (is_an_integer x) h = absurd (omega arith)
bare_empty (is_float x) h = absurd (omega arith)
bare_empty (is_string x) h = absurd (omega arith)
bare_empty (is_bytes x) h = absurd (omega arith)

pub scalar_bare : (k : ℕ) (s : List ℕ) (n : ℕ) → 1 ≤ k → k < 4 → n ≡ length s → Tells (Scalar k s) (eqb n 0)
scalar_bare k s n p q e = by s (eqb n 0) refl e
  where
    by : (s : List ℕ) (r : Bool) → eqb n 0 ≡ r → n ≡ length s → Tells (Scalar k s) r
    by [] true f l = bare k p q
    by (b ∷ s) true f l = absurd (omega (arith, eqb-true n 0 f))
    by s false f l = λ x. eqb-false n 0 f (omega (arith, bare_empty x q))

pub scalar_low : {k : ℕ} {s : List ℕ} → k < 1 → Scalar k s → ⊥
scalar_low h is_null = omega arith
scalar_low h is_false = omega arith
scalar_low h is_true = omega arith
scalar_low h (is_an_integer x) = omega arith
scalar_low h (is_float x) = omega arith
scalar_low h (is_string x) = omega arith
scalar_low h (is_bytes x) = omega arith

pub scalar_high : {k : ℕ} {s : List ℕ} → 4 ≤ k → (k ≡ 4 → ⊥) → (k ≡ 5 → ⊥) → (k ≡ 6 → ⊥) → (k ≡ 7 → ⊥) → Scalar k s → ⊥
scalar_high h i f t b is_null = omega arith
scalar_high h i f t b is_false = omega arith
scalar_high h i f t b is_true = omega arith
scalar_high h i f t b (is_an_integer x) = i refl
scalar_high h i f t b (is_float x) = f refl
scalar_high h i f t b (is_string x) = t refl
scalar_high h i f t b (is_bytes x) = b refl
