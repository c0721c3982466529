-- Laws of the text of an integer and of a float, as it is stored behind a sign. Assumes nothing.
use mathlib.Core.Path.{◌≡◌, refl, sym, ap, ◌∙◌}
use mathlib.Core.List.{List, [], ◌∷◌, ◌++◌}
use mathlib.Core.Bool.{Bool, true, false}
use Prim.Native.Nat.{ℕ, suc, ◌+◌, ◌≤◌}
use native.Mathlib.Numerals.{add-one}
use native.Mathlib.Omega.{arith}
use lib.ListN.{length, get_or, set, length-append}
use lib.Seq.{sets, slice, slice-cons}
use lib.Dec.{eqb}
use borrow.Author.Rules.{rules}
use borrow.Author.Tests.{ne_eqb}
use Rattle.exact.specs.Place.{slice_join}
use Rattle.exact.specs.Class.{pick}
use Rattle.language.specs.Kind.{INTEGER}
use Rattle.language.specs.Scalars.{minus, signed}
use Rattle.numbers.specs.declared.scanning.Numeral.{Numeral}
use Rattle.numbers.specs.Places.{squeezed}
use Rattle.numbers.specs.Texts.{minus_of, number_text}
use Rattle.numbers.specs.Contract.{Tight, Storing, Dense, Stored, Whole, Nonzero, Sign, negative, positive, Writing}
use Rattle.numbers.proofs.SqueezeLaws.{squeezed_le, squeeze_join, squeeze_byte, tight_join, tight_byte}

-- A PART of what has no spaces has none
squeezed_full : (u : List ℕ) → length u ≤ length (squeezed u) → squeezed u ≡ u
unfolding squeezed
squeezed_full [] h = refl
squeezed_full (b ∷ u) h = by (eqb b 32) h (squeezed_full u)
  where
    by : (x : Bool) → suc (length u) ≤ length (pick x (squeezed u) (b ∷ squeezed u)) → (length u ≤ length (squeezed u) → squeezed u ≡ u)
        → pick x (squeezed u) (b ∷ squeezed u) ≡ b ∷ u
    by true k ih = absurd (omega (arith, squeezed_le u))
    by false k ih = ap (b ∷◌) (ih (omega arith))

tight_part : (doc : List ℕ) (d z e : ℕ) → d ≤ z → z ≤ e → Tight doc d e → Tight doc z e
tight_part doc d z e h k t =
    let u = slice d z doc in
    let v = slice z e doc in
    let m : length (squeezed u) + length (squeezed v) ≡ length u + length v =
    sym (length-append (squeezed u) (squeezed v)) ∙ (ap length (squeeze_join doc d z e h k ∙ (t ∙ sym (slice_join d z e doc h k))) ∙ length-append u v) in
    squeezed_full v (omega (arith, squeezed_le u))

-- AN INTEGER whose plain digits begin at z
module _ (doc : List ℕ) (d e z : ℕ) (n : Nonzero doc d e z) where
  pub storing_at : (x : ℕ) → Storing doc d e (x + 1) → Storing doc z e x
  storing_at x s = let i = n.inside in record { ahead = omega arith; inside = s.inside; small = omega (arith, s.small) }

  pub storing_next : (x : ℕ) → Storing doc d e (x + 1) → Storing doc z e (x + 1)
  storing_next x s = let i = n.inside in record { ahead = omega arith; inside = s.inside; small = s.small }

  pub dense_part : (b : Bool) → Dense doc d e b → Dense doc z e b
  dense_part b s = let i = n.inside in record { tight = λ h. tight_part doc d z e n.ahead (omega arith) (s.tight h) }

  module _ (neg : Bool) (x r : ℕ) (T T' : List ℕ) where
    pub text_plain : neg ≡ false → Stored T T' x r (squeezed (slice z e doc)) → Stored T T' x r (signed (minus_of neg) (squeezed (slice d e doc)))
    text_plain h s = rw (h, n.plainly) s

    module _ (l : e ≤ length doc) where
      first_byte : squeezed (slice z e doc) ≡ get_or doc z 0 ∷ squeezed (slice (suc z) e doc)
      unfolding squeezed
      first_byte = ap squeezed (slice-cons z e doc 0 n.inside l) ∙ rw (ne_eqb (get_or doc z 0) 32 n.solid) refl

      minus_zero : get_or doc z 0 ≡ 48 → minus (squeezed (slice z e doc)) ≡ squeezed (slice z e doc)
      unfolding minus
      minus_zero k = rw (first_byte, k) refl

      minus_other : (get_or doc z 0 ≡ 48 → ⊥) → minus (squeezed (slice z e doc)) ≡ 45 ∷ squeezed (slice z e doc)
      unfolding minus
      minus_other k = rw (first_byte, ne_eqb (get_or doc z 0) 48 k) refl

      pub text_zero : neg ≡ true → get_or doc z 0 ≡ 48 → Stored T T' x r (squeezed (slice z e doc)) → Stored T T' x r (signed (minus_of neg) (squeezed (slice d e doc)))
      text_zero h k s = rw (h, n.plainly, minus_zero k) s

      pub text_minus : (T₁ : List ℕ) → neg ≡ true → (get_or doc z 0 ≡ 48 → ⊥) → T₁ ≡ set T x 45 → Stored T₁ T' (x + 1) r (squeezed (slice z e doc))
          → Stored T T' x r (signed (minus_of neg) (squeezed (slice d e doc)))
      text_minus T₁ h k w s =
          rw (h, n.plainly, minus_other k)
          (record { end = omega (arith, s.end); room = s.room ∙ (ap (λ u. sets u (x + 1) (squeezed (slice z e doc))) w ∙ rw add-one refl) })

pub ruleset integer_laws = (storing_at, storing_next, dense_part, text_plain, text_zero, text_minus, rules)

-- A NUMBER
sign_text_lem : {doc : List ℕ} {at d : ℕ} {neg : Bool} (e : ℕ) → d ≤ e → Sign doc at d neg → squeezed (slice at e doc) ≡ minus_of neg ++ squeezed (slice d e doc)
sign_text_lem {doc} {at} e l (negative s) =
    sym (squeeze_join doc at (at + 1) e (omega arith) l) ∙ ap (λ u. u ++ squeezed (slice (at + 1) e doc)) (squeeze_byte doc at 45 s.byte (λ z. omega arith) s.inside)
sign_text_lem e l positive = refl

sign_tight : {doc : List ℕ} {at d : ℕ} {neg : Bool} (e : ℕ) → d ≤ e → Sign doc at d neg → Tight doc d e → Tight doc at e
sign_tight {doc} {at} e l (negative s) t = tight_join doc at (at + 1) e (omega arith) l (tight_byte doc at 45 s.byte (λ z. omega arith) s.inside) t
sign_tight e l positive t = t

sign_before : {doc : List ℕ} {at d : ℕ} {neg : Bool} → Sign doc at d neg → at ≤ d
sign_before (negative s) = omega arith
sign_before positive = omega arith

module _ (doc : List ℕ) (s : Numeral) (at d : ℕ) (neg : Bool) (x : ℕ) (w : Writing doc s at d neg x) where
  pub writing_whole : s.kind.0 ≡ INTEGER → Whole doc d s.end
  writing_whole k = record { some = w.some; inside = w.inside; last = w.last k }

  pub writing_integer : Storing doc d s.end (x + 1)
  writing_integer = record { ahead = omega (arith, w.some); inside = w.inside; small = omega (arith, w.small, w.inside) }

  pub writing_dense : Dense doc d s.end s.dense
  writing_dense = record { tight = w.dense }

  pub writing_float : Storing doc at s.end x
  writing_float = record { ahead = omega (arith, w.some, sign_before w.sign); inside = w.inside; small = omega (arith, w.small, w.inside) }

  pub writing_tight : Dense doc at s.end s.dense
  writing_tight = record { tight = λ h. sign_tight s.end (omega (arith, w.some)) w.sign (w.dense h) }

  module _ (r : ℕ) (T T' : List ℕ) where
    pub number_integer : s.kind.0 ≡ INTEGER → Stored T T' x r (signed (minus_of neg) (squeezed (slice d s.end doc)))
        → Stored T T' x r (number_text s.kind.0 (minus_of neg) (squeezed (slice d s.end doc)))
    number_integer k q = rw k q

    pub number_float : (s.kind.0 ≡ INTEGER → ⊥) → Stored T T' x r (squeezed (slice at s.end doc))
        → Stored T T' x r (number_text s.kind.0 (minus_of neg) (squeezed (slice d s.end doc)))
    number_float k q = rw (ne_eqb s.kind.0 INTEGER k) (rw (sign_text_lem s.end (omega (arith, w.some)) w.sign) at q)

pub ruleset text_laws = (writing_whole, writing_integer, writing_dense, writing_float, writing_tight, number_integer, number_float, rules)
