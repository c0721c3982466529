-- Laws of the scanner, as its takes and returns say them: a byte that was taken, and the place behind it. Assumes nothing.
use mathlib.Core.Path.{◌≡◌, refl, sym, subst, ◌∙◌}
use mathlib.Core.List.{List}
use mathlib.Core.Logic.{◌⊎◌, inl, inr}
use mathlib.Core.Bool.{Bool, true, false}
use Prim.Native.Nat.{ℕ, ◌+◌, ◌-◌, ◌≤◌, ◌<◌}
use native.Mathlib.Omega.{arith}
use lib.ListN.{length, drop}
use borrow.Author.Rules.{rules}
use Rattle.exact.specs.Class.{and, or_of, within, ◌to◌, range_of, is, only, only_eq}
use Rattle.exact.specs.Lang.{byte_r}
use Rattle.exact.specs.Place.{peek}
use Rattle.characters.specs.declared.Reading.{Reading}
use Rattle.characters.specs.Reads.{Took}
use Rattle.std.specs.declared.option.Option.TheVariants.{None, Some}
use Rattle.std.specs.declared.result.Result.TheVariants.{Err, Ok}
use Rattle.characters.specs.Reads.{Skip}
use Rattle.characters.specs.Reads.{ByteRead, byte_inside, byte_there, byte_next, byte_over, Skips}
use Rattle.characters.specs.Takes.{take_byte, take_next, take_inside, take_other, take_place}
use Rattle.numbers.specs.declared.digits.Stretch.{Stretch}
use Rattle.numbers.specs.Contract.{Scanned}
use Rattle.numbers.specs.Plain.{sign}
use Rattle.numbers.specs.Numbers.{power_at, point_at}
use Rattle.numbers.specs.Contract.{Grouped, Other, Passed, PastSign, an_integer, a_float, Powered, Ends, Scans}
use Rattle.numbers.proofs.ScanLaws.{power_not, power_read}
use Rattle.numbers.proofs.FloatLaws.{power_some, power_none, point_none, point_some, point_alone, point_first, digits_none, digits_point, digits_power, digits_alone}

-- A BYTE TAKEN, or another
module _ (doc : List ℕ) (at b : ℕ) (small : b < 256) (t : Skip) (h : Skips doc at (byte_r (is (only b)) at (drop at doc)) t) where
  pub passed : (n : ℕ) → t ≡ Ok n → Passed doc at b n
  passed n e = record { stands = record { byte = take_byte doc at b small t h n e; inside = take_inside doc at b small t h n e }; next = take_next doc at b small t h n e }

  -- the place of the byte is one less than the place behind it
  before : (n : ℕ) → t ≡ Ok n → at ≡ n - 1
  before n e = let z = take_next doc at b small t h n e in omega arith

  pub passed_behind : (n : ℕ) → t ≡ Ok n → Passed doc (n - 1) b n
  passed_behind n e = subst (λ k. Passed doc k b n) (before n e) (passed n e)

  pub passed_other : (p : ℕ) → t ≡ Err p → Other doc at b
  passed_other p e = record { not = take_other doc at b small t h p e }

pub passed_inside : (doc : List ℕ) (at b n : ℕ) → Passed doc at b n → n ≤ length doc
passed_inside doc at b n p = let i = p.stands.inside in omega (arith, p.next)

-- THE SIGN of an exponent
no_sign : (b : ℕ) → (b ≡ 43 → ⊥) → (b ≡ 45 → ⊥) → is sign b ≡ false
no_sign b n m = go (is sign b) refl
  where
    never : (within (43 to 43) b ≡ true) ⊎ (is (only 45) b ≡ true) → ⊥
    never (inl x) = let y = range_of 43 43 b x in n (omega arith)
    never (inr x) = m (only_eq 45 b x)

    go : (y : Bool) → is sign b ≡ y → y ≡ false
    go true z = absurd (never (or_of (within (43 to 43) b) (is (only 45) b) z))
    go false z = refl

module _ (doc : List ℕ) (at : ℕ) (t : Took) (h : ByteRead doc at t) where
  module _ (b : ℕ) (n : Reading) (e : t ≡ Some (b, n)) where
    sign_taken : is sign b ≡ true → PastSign doc at n.at
    sign_taken y =
        let i = byte_inside doc at t h b n e in
        let z = byte_next doc at t h b n e in
        record { end = z ∙ rw (← byte_there doc at t h b n e, y) refl; ahead = omega arith; inside = omega arith }

    pub sign_plus : b ≡ 43 → PastSign doc at n.at
    sign_plus k = sign_taken (rw k refl)

    pub sign_minus : b ≡ 45 → PastSign doc at n.at
    sign_minus k = sign_taken (rw k refl)

    pub sign_none : (b ≡ 43 → ⊥) → (b ≡ 45 → ⊥) → PastSign doc at at
    sign_none k m =
        let i = byte_inside doc at t h b n e in
        record { end = rw (← byte_there doc at t h b n e, no_sign b k m) refl; ahead = omega arith; inside = omega arith }

  pub sign_over : at ≤ length doc → t ≡ None → PastSign doc at at
  sign_over l e = record { end = rw (byte_over doc at t h e) refl; ahead = omega arith; inside = l }

-- AN EXPONENT OR NONE
module _ (spaced : Bool) (doc : List ℕ) (at last : ℕ) (dense : Bool) (t : Skip) (h : Skips doc at (byte_r (is (only 101)) at (drop at doc)) t) where
  pub fraction_power : (n : ℕ) (s : Scanned) → last ≤ at → t ≡ Ok n → Powered spaced doc (n - 1) dense s → Ends spaced doc at dense (power_at spaced doc last at) s
  fraction_power n s l e x =
      power_some spaced doc at last dense l (take_byte doc at 101 (omega arith) t h n e)
      (subst (λ k. Powered spaced doc k dense s) (sym (before doc at 101 (omega arith) t h n e)) x)

  pub fraction_none : (p : ℕ) (s : Scanned) → at ≤ length doc → t ≡ Err p → s ≡ a_float p last dense → Ends spaced doc at dense (power_at spaced doc last at) s
  fraction_none p s i e k = rw (k, take_place doc at 101 (omega arith) t h p e) (power_none spaced doc at last dense i (take_other doc at 101 (omega arith) t h p e))

-- A POINT
module _ (spaced : Bool) (doc : List ℕ) (at n : ℕ) (p : Passed doc at 46 n) (g : Stretch) (x : Grouped spaced doc n g) where
  behind : Grouped spaced doc (at + 1) g
  behind = subst (λ k. Grouped spaced doc k g) p.next x

  pub pointed_none : (s : Scanned) (dense : Bool) → g.end.at ≡ n → Ends spaced doc n dense (power_at spaced doc at n) s → Ends spaced doc at dense (point_at spaced doc at) s
  pointed_none s dense e y =
      point_none spaced doc at p.stands.byte g behind dense (e ∙ p.next) (subst (λ k. Ends spaced doc k dense (power_at spaced doc at k) s) p.next y)

  pub pointed_some : (s : Scanned) (dense b : Bool) → (g.end.at ≡ n → ⊥) → b ≡ and dense g.dense
      → Ends spaced doc g.end.at b (power_at spaced doc g.end.at g.end.at) s → Ends spaced doc at dense (point_at spaced doc at) s
  pointed_some s dense b e k y = point_some spaced doc at p.stands.byte g behind dense b (λ z. e (z ∙ sym p.next)) k y

  pub led_not : g.end.at ≡ n → Scans spaced doc at (Err n)
  led_not e = subst (λ k. Scans spaced doc at (Err k)) (sym p.next) (point_alone spaced doc at p.stands.byte g behind (e ∙ p.next))

  pub led_some : (s : Scanned) → (g.end.at ≡ n → ⊥) → Ends spaced doc g.end.at g.dense (power_at spaced doc g.end.at g.end.at) s → Scans spaced doc at s
  led_some s e y = point_first spaced doc at p.stands.byte g behind (λ z. e (z ∙ sym p.next)) y

-- DIGITS, AND WHAT IS BEHIND THEM
module _ (spaced : Bool) (doc : List ℕ) (at : ℕ) (o : Other doc at 46) (g : Stretch) (x : Grouped spaced doc at g) where
  pub whole_not : at ≤ length doc → g.end.at ≡ at → Scans spaced doc at (Err at)
  whole_not = digits_none spaced doc at o g x

  module _ (k : g.end.at ≡ at → ⊥) (t : Skip) (h : Skips doc g.end.at (byte_r (is (only 46)) g.end.at (drop g.end.at doc)) t) where
    pub whole_point : (n : ℕ) (s : Scanned) → t ≡ Ok n → Ends spaced doc g.end.at g.dense (point_at spaced doc g.end.at) s → Scans spaced doc at s
    whole_point n s e y = digits_point spaced doc at o g x k (take_byte doc g.end.at 46 (omega arith) t h n e) y

    module _ (p : ℕ) (e : t ≡ Err p) (u : Skip) (i : Skips doc g.end.at (byte_r (is (only 101)) g.end.at (drop g.end.at doc)) u) where
      no_point : peek doc g.end.at ≡ 46 → ⊥
      no_point = take_other doc g.end.at 46 (omega arith) t h p e

      pub whole_power : (n : ℕ) (s : Scanned) → u ≡ Ok n → Powered spaced doc (n - 1) g.dense s → Scans spaced doc at s
      whole_power n s z y =
          digits_power spaced doc at o g x k no_point (take_byte doc g.end.at 101 (omega arith) u i n z)
          (subst (λ k. Powered spaced doc k g.dense s) (sym (before doc g.end.at 101 (omega arith) u i n z)) y)

      pub whole_integer : (q : ℕ) (s : Scanned) → u ≡ Err q → s ≡ an_integer q g.dense → Scans spaced doc at s
      whole_integer q s z y =
          rw (y, take_place doc g.end.at 101 (omega arith) u i q z) (digits_alone spaced doc at o g x k no_point (take_other doc g.end.at 101 (omega arith) u i q z))

-- A NUMBER
pub scan_led : (spaced : Bool) (doc : List ℕ) (at : ℕ) (t : Skip) (n : ℕ) (s : Scanned) → Skips doc at (byte_r (is (only 46)) at (drop at doc)) t → t ≡ Ok n
    → Scans spaced doc (n - 1) s → Scans spaced doc at s
scan_led spaced doc at t n s h e y = subst (λ k. Scans spaced doc k s) (sym (before doc at 46 (omega arith) t h n e)) y

pub ruleset sign_laws = (sign_plus, sign_minus, sign_none, sign_over, rules)

pub ruleset power_laws = (power_not, power_read, passed_inside, rules)

pub ruleset fraction_laws = (fraction_power, fraction_none, passed_behind, rules)

pub ruleset point_laws = (pointed_none, pointed_some, led_not, led_some, passed_inside, rules)

pub ruleset whole_laws = (whole_not, whole_point, whole_power, whole_integer, passed, passed_behind, rules)

pub ruleset scan_laws = (scan_led, passed_behind, passed_other, rules)
