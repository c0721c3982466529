-- HEX DIGITS, LETTERED ESCAPES AND ALLOWED CHARACTERS as tests in code tell them. Assumes nothing.
use Rattle.std.specs.Prelude.{◌≡◌, refl, Bool, true, false, ℕ, ◌+◌, ◌-◌, ◌%◌, ◌≤◌, ◌<◌, eqb, leb}
use Rattle.std.proofs.Common.{sym, ap, ◌∙◌, arith, leb-true, leb-false, le-leb, eq-eqb, ne_eqb}
use Rattle.std.proofs.Math.Decide.{ℕ_discrete}
use Rattle.std.proofs.lemmas.Bool.{lt-leb}
use Rattle.exact.specs.Class.{only_no}
use Rattle.language.specs.Characters.{ascii, character}
use Rattle.language.specs.House.{hexletter}

-- a hex digit
module _ (d : ℕ) where
  pub digit_low : d ≤ 9 → 48 + d ≡ hexletter d
  digit_low h = rw (le-leb d 9 h)

  pub digit_high : 9 < d → 97 + (d - 10) ≡ hexletter d
  digit_high h = let e : 97 + (d - 10) ≡ 87 + d = omega arith in e ∙ rw (lt-leb d 9 h) refl

pub ruleset digits = (digit_low, digit_high)

-- the characters of a document
module _ (v : ℕ) where
  pub low_allowed : v < 32 → eqb v 10 ≡ character ascii v
  low_allowed h = by (ℕ_discrete v 10)
    where
      by : Dec (v ≡ 10) → eqb v 10 ≡ character ascii v
      by (yes e) = eq-eqb v 10 e ∙ ap (character ascii) (sym e)
      by (no n) = ne_eqb v 10 n ∙ sym (simp (le-leb v 127 (omega arith), only_no 10 v n, lt-leb 32 v h))

  pub mid_allowed : 32 ≤ v → v < 160 → leb v 126 ≡ character ascii v
  mid_allowed h k = by (leb v 126) refl
    where
      by : (c : Bool) → leb v 126 ≡ c → leb v 126 ≡ character ascii v
      by true e = e ∙ sym (simp (le-leb v 127 (omega (arith, leb-true v 126 e)), le-leb 10 v (omega arith), lt-leb v 10 (omega arith), le-leb 32 v h, e))
      by false e = e ∙ sym (other (ℕ_discrete v 127))
        where
          other : Dec (v ≡ 127) → character ascii v ≡ false
          other (yes z) = ap (character ascii) z
          other (no n) =
              let l : 127 < v = omega (arith, leb-false v 126 e, n) in
              simp (lt-leb v 127 l, lt-leb 160 v k, lt-leb 0xE000 v (omega arith), lt-leb 0xFDF0 v (omega arith), lt-leb 0x10000 v (omega arith))

  pub near_one : 160 ≤ v → v ≤ 0xD7FF → true ≡ character ascii v
  near_one h k = sym (simp (lt-leb v 127 (omega arith), le-leb 160 v h, le-leb v 0xD7FF k))

  pub near_two : 0xD7FF < v → v < 0xE000 → false ≡ character ascii v
  near_two h k = sym (simp (lt-leb v 127 (omega arith), le-leb 160 v (omega arith), lt-leb v 0xD7FF h, lt-leb 0xE000 v k, lt-leb 0xFDF0 v (omega arith), lt-leb 0x10000 v (omega arith)))

  pub near_three : 0xE000 ≤ v → v ≤ 0xFDCF → true ≡ character ascii v
  near_three h k = sym (simp (lt-leb v 127 (omega arith), le-leb 160 v (omega arith), lt-leb v 0xD7FF (omega arith), le-leb 0xE000 v h, le-leb v 0xFDCF k))

  pub near_four : 0xFDCF < v → v < 0xFDF0 → false ≡ character ascii v
  near_four h k = sym (simp (lt-leb v 127 (omega arith), le-leb 160 v (omega arith), lt-leb v 0xD7FF (omega arith), le-leb 0xE000 v (omega arith), lt-leb v 0xFDCF h, lt-leb 0xFDF0 v k, lt-leb 0x10000 v (omega arith)))

  pub near_five : 0xFDF0 ≤ v → v < 0x10000 → leb v 0xFFFD ≡ character ascii v
  near_five h k = by (leb v 0xFFFD) refl
    where
      by : (c : Bool) → leb v 0xFFFD ≡ c → leb v 0xFFFD ≡ character ascii v
      by true e = e ∙ sym (simp (lt-leb v 127 (omega arith), le-leb 160 v (omega arith), lt-leb v 0xD7FF (omega arith), le-leb 0xE000 v (omega arith), lt-leb v 0xFDCF (omega arith), le-leb 0xFDF0 v h, e))
      by false e = e ∙ sym (simp (lt-leb v 127 (omega arith), le-leb 160 v (omega arith), lt-leb v 0xD7FF (omega arith), le-leb 0xE000 v (omega arith), lt-leb v 0xFDCF (omega arith), le-leb 0xFDF0 v h, e, lt-leb 0x10000 v k))

  pub far_allowed : 0x10000 ≤ v → v ≤ 0x10FFFF → leb (v % 0x10000) 0xFFFD ≡ character ascii v
  far_allowed h k = sym (simp (lt-leb v 127 (omega arith), le-leb 160 v (omega arith), lt-leb v 0xD7FF (omega arith), le-leb 0xE000 v (omega arith), lt-leb v 0xFDCF (omega arith), le-leb 0xFDF0 v (omega arith), lt-leb v 0xFFFD (omega arith), le-leb 0x10000 v h, le-leb v 0x10FFFF k))

  pub past_allowed : 0x10FFFF < v → false ≡ character ascii v
  past_allowed h = sym (simp (lt-leb v 127 (omega arith), le-leb 160 v (omega arith), lt-leb v 0xD7FF (omega arith), le-leb 0xE000 v (omega arith), lt-leb v 0xFDCF (omega arith), le-leb 0xFDF0 v (omega arith), lt-leb v 0xFFFD (omega arith), le-leb 0x10000 v (omega arith), lt-leb v 0x10FFFF h))

pub ruleset allows = (low_allowed, mid_allowed, near_one, near_two, near_three, near_four, near_five, far_allowed, past_allowed)
