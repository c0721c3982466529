-- Laws of hex digits, scalar values and letters behind a backslash, as the tests in code meet them.
use mathlib.Core.Path.{◌≡◌, refl, sym, ap, ◌∙◌}
use mathlib.Core.List.{List}
use mathlib.Core.Bool.{Bool, true, false}
use Prim.Native.Nat.{ℕ, zero, suc, ◌+◌, ◌-◌, ◌*◌, ◌/◌, ◌%◌, ◌^◌, ◌≤◌, ◌<◌}
use native.Mathlib.Omega.{arith}
use native.Mathlib.Decide.{dec_le}
use lib.ListN.{length, get_or, get_or-eq_default}
use lib.Dec.{leb, eqb}
use borrow.Author.Rules.{rules}
use borrow.Author.Tests.{le-leb, lt-leb}
use mathlib.Core.Logic.{◌⊎◌, inl, inr}
use Rattle.exact.specs.Class.{pick, clash, Class, is, within, ◌to◌, sub, inside, and, or, or_of, range_of}
use Rattle.exact.specs.Place.{peek, get_d_any}
use Rattle.language.specs.Strings.{hexval, hexdigit, lowhex, scalar}
use Rattle.characters.specs.declared.Reading.{Reading}
use Rattle.characters.specs.Reads.{Took}
use Rattle.std.specs.declared.option.Option.{Option}
use Rattle.std.specs.declared.option.Option.TheVariants.{None, Some}
use Rattle.characters.specs.Reads.{ByteRead, byte_there, byte_next, byte_over}
use Rattle.characters.specs.Plains.{other}
use Rattle.strings.specs.Contract.{Digit}
use Rattle.strings.specs.Contract.{digit_of, Digited, DigitRead, Letter}

-- ---- a digit at a place

pub hexval_low : (b : ℕ) → is hexdigit b ≡ true → hexval b < 16
hexval_low b e = by (or_of (within (48 to 57) b) (or (within (65 to 70) b) (or (within (97 to 102) b) false)) e)
  where
    lower : (within (97 to 102) b ≡ true) ⊎ (false ≡ true) → hexval b < 16
    lower (inl x) = let h = range_of 97 102 b x in rw (lt-leb b 57 (omega arith), lt-leb b 70 (omega arith)) (omega arith)
    lower (inr x) = absurd (clash x refl)

    upper : (within (65 to 70) b ≡ true) ⊎ (or (within (97 to 102) b) false ≡ true) → hexval b < 16
    upper (inl x) = let h = range_of 65 70 b x in rw (lt-leb b 57 (omega arith), le-leb b 70 h.1) (omega arith)
    upper (inr x) = lower (or_of (within (97 to 102) b) false x)

    by : (within (48 to 57) b ≡ true) ⊎ (or (within (65 to 70) b) (or (within (97 to 102) b) false) ≡ true) → hexval b < 16
    by (inl x) = let h = range_of 48 57 b x in rw (le-leb b 57 h.1) (omega arith)
    by (inr x) = upper (or_of (within (65 to 70) b) (or (within (97 to 102) b) false) x)

-- a byte of the class has its value, another one none
module _ (c : Class) (b : ℕ) where
  data Valued : Type 0 where
    valued : is c b ≡ true → digit_of c b ≡ Some (hexval b) → Valued
    no_value : is c b ≡ false → digit_of c b ≡ None → Valued

  digit_of_lem : Valued
  unfolding digit_of
  digit_of_lem = by (is c b) refl
    where
      by : (x : Bool) → is c b ≡ x → Valued
      by true e = valued e (rw e refl)
      by false e = no_value e (rw e refl)

  pub digit_is : (d : ℕ) → Some d ≡ digit_of c b → (is c b ≡ true) × (d ≡ hexval b)
  digit_is d e = by digit_of_lem
    where
      by : Valued → (is c b ≡ true) × (d ≡ hexval b)
      by (valued h k) = (h, cc)
      by (no_value h k) = absurd (let z = e ∙ k in cc)

  pub digit_none : None ≡ digit_of c b → is c b ≡ false
  digit_none e = by digit_of_lem
    where
      by : Valued → is c b ≡ false
      by (valued h k) = absurd (let z = e ∙ k in cc)
      by (no_value h k) = h

-- ---- a digit read

module _ (c : Class) (doc : List ℕ) (at : ℕ) (within-hex : sub c hexdigit ≡ true) (t : Took) (h : ByteRead doc at t) where
  pub digit_over : t ≡ None → is c 256 ≡ false → DigitRead c doc at None
  unfolding DigitRead
  digit_over e n = rw (byte_over doc at t h e) n

  module _ (b : ℕ) (n : Reading) (e : t ≡ Some (b, n)) (v : Option ℕ) (k : v ≡ digit_of c b) where
    here : b ≡ peek doc at
    here = byte_there doc at t h b n e

    pub digit_other : v ≡ None → DigitRead c doc at None
    unfolding DigitRead
    digit_other z = rw (← here) (digit_none c b (sym z ∙ k))

    pub digit_read : (d : ℕ) → v ≡ Some d → DigitRead c doc at (Some (d, n))
    unfolding DigitRead
    digit_read d z =
        let x = digit_is c b d (sym z ∙ k) in
        record {
          digit = rw (← here) x.0;
          value = rw (← here) x.1;
          small = rw x.1 (hexval_low b (inside c hexdigit b within-hex x.0));
          next = byte_next doc at t h b n e;
        }

  -- .. by the class and the value of its byte
  module _ (b d : ℕ) (n : Reading) (e : t ≡ Some (b, n)) (x : Bool) (k : x ≡ is c b) where
    there : b ≡ peek doc at
    there = byte_there doc at t h b n e

    pub class_other : x ≡ false → DigitRead c doc at None
    unfolding DigitRead
    class_other z = rw (← there) (sym k ∙ z)

    pub class_read : x ≡ true → d ≡ hexval b → d < 16 → DigitRead c doc at (Some (d, n))
    unfolding DigitRead
    class_read z v l = record { digit = rw (← there) (sym k ∙ z); value = rw (← there) v; small = l; next = byte_next doc at t h b n e }

-- .. and taken apart
module _ (c : Class) (doc : List ℕ) (at : ℕ) (r : Digit) (h : DigitRead c doc at r) where
  pub digited : (d : ℕ) (n : Reading) → r ≡ Some (d, n) → Digited c doc at d n.at
  unfolding DigitRead
  digited d n e = rw e at h

  pub undigited : r ≡ None → is c (peek doc at) ≡ false
  unfolding DigitRead
  undigited e = rw e at h

pub hex_sub : sub hexdigit hexdigit ≡ true
hex_sub = refl

pub low_sub : sub lowhex hexdigit ≡ true
low_sub = refl

pub hex_over : is hexdigit 256 ≡ false
hex_over = refl

pub low_over : is lowhex 256 ≡ false
low_over = refl

-- a byte of a class is there
pub class_in : (k : Class) (doc : List ℕ) (at : ℕ) → is k 256 ≡ false → is k (peek doc at) ≡ true → at < length doc
class_in k doc at n e = by (dec_le (suc at) (length doc))
  where
    by : Dec (suc at ≤ length doc) → at < length doc
    by (yes l) = l
    by (no l) = absurd (clash e (ap (is k) (get_or-eq_default doc 256 (omega arith)) ∙ n))

-- a digit that is known to stand at a place: its byte, and its value
module _ (doc : List ℕ) (at : ℕ) (h : is lowhex (peek doc at) ≡ true) where
  same_byte : peek doc at ≡ get_or doc at 0
  same_byte = get_d_any doc at 256 0 (class_in lowhex doc at refl h)

  pub low_byte : is lowhex (get_or doc at 0) ≡ true
  low_byte = rw same_byte at h

  pub low_there : (r : ℕ) → r ≡ hexval (get_or doc at 0) → r < 16 → Digited lowhex doc at r (at + 1)
  low_there r v l = record { digit = h; value = rw same_byte v; small = l; next = refl }

-- ---- digits of either case

module _ (b : ℕ) where
  pub hex_below : b < 48 → None ≡ digit_of hexdigit b
  unfolding digit_of
  hex_below h = rw (lt-leb 48 b h, lt-leb 65 b (omega arith), lt-leb 97 b (omega arith)) refl

  pub hex_decimal : 48 ≤ b → b ≤ 57 → Some (b - 48) ≡ digit_of hexdigit b
  unfolding digit_of
  hex_decimal h k = rw (le-leb 48 b h, le-leb b 57 k) refl

  pub hex_middle : 57 < b → b < 65 → None ≡ digit_of hexdigit b
  unfolding digit_of
  hex_middle h k = rw (le-leb 48 b (omega arith), lt-leb b 57 h, lt-leb 65 b k, lt-leb 97 b (omega arith)) refl

  pub hex_upper : 65 ≤ b → b ≤ 70 → Some (b - 55) ≡ digit_of hexdigit b
  unfolding digit_of
  hex_upper h k = rw (le-leb 48 b (omega arith), lt-leb b 57 (omega arith), le-leb 65 b h, le-leb b 70 k) refl

  pub hex_between : 70 < b → b < 97 → None ≡ digit_of hexdigit b
  unfolding digit_of
  hex_between h k = rw (le-leb 48 b (omega arith), lt-leb b 57 (omega arith), le-leb 65 b (omega arith), lt-leb b 70 h, lt-leb 97 b k) refl

  pub hex_lower : 97 ≤ b → b ≤ 102 → Some (b - 87) ≡ digit_of hexdigit b
  unfolding digit_of
  hex_lower h k = rw (le-leb 48 b (omega arith), lt-leb b 57 (omega arith), le-leb 65 b (omega arith), lt-leb b 70 (omega arith), le-leb 97 b h, le-leb b 102 k) refl

  pub hex_above : 102 < b → None ≡ digit_of hexdigit b
  unfolding digit_of
  hex_above h = rw (le-leb 48 b (omega arith), lt-leb b 57 (omega arith), le-leb 65 b (omega arith), lt-leb b 70 (omega arith), le-leb 97 b (omega arith), lt-leb b 102 h) refl

-- ---- lowercase digits

-- a test that is computed for every number below another
alike : Bool → Bool → Bool
alike true y = y
alike false y = pick y false true

alike_is : (x y : Bool) → alike x y ≡ true → x ≡ y
unfolding alike
alike_is true true e = refl
alike_is true false e = absurd (clash e refl)
alike_is false true e = absurd (clash e refl)
alike_is false false e = refl

every : (ℕ → Bool) → ℕ → Bool
every p zero = true
every p (suc n) = and (p n) (every p n)

both_of : (x y : Bool) → and x y ≡ true → (x ≡ true) × (y ≡ true)
both_of true y e = (refl, e)
both_of false y e = absurd (clash e refl)

every_at : (p : ℕ → Bool) (n k : ℕ) → every p n ≡ true → k < n → p k ≡ true
unfolding every
every_at p zero k e l = absurd (omega arith)
every_at p (suc n) k e l = by (both_of (p n) (every p n) e) (λ f m. every_at p n k f m) (dec_le n k)
  where
    by : (p n ≡ true) × (every p n ≡ true) → (every p n ≡ true → k < n → p k ≡ true) → Dec (n ≤ k) → p k ≡ true
    by f g (yes m) = ap p (let z : k ≡ n = omega arith in z) ∙ f.0
    by f g (no m) = g f.1 (omega arith)

-- the digits from 48 on, a bit for each
abbrev lows_bits : ℕ
lows_bits = 35465847065543679

right : ℕ → Bool
right k = alike (eqb (lows_bits / 2 ^ k % 2) 1) (is lowhex (48 + k))

module _ (b : ℕ) where
  pub low_below : b < 48 → false ≡ is lowhex b
  low_below h = rw (lt-leb 48 b h, lt-leb 97 b (omega arith)) refl

  pub low_decimal : 48 ≤ b → b ≤ 57 → true ≡ is lowhex b
  low_decimal h k = rw (le-leb 48 b h, le-leb b 57 k) refl

  pub low_middle : 57 < b → b < 97 → false ≡ is lowhex b
  low_middle h k = rw (le-leb 48 b (omega arith), lt-leb b 57 h, lt-leb 97 b k) refl

  pub low_lower : 97 ≤ b → b ≤ 102 → true ≡ is lowhex b
  low_lower h k = rw (le-leb 48 b (omega arith), lt-leb b 57 (omega arith), le-leb 97 b h, le-leb b 102 k) refl

  pub low_above : 102 < b → false ≡ is lowhex b
  low_above h = rw (le-leb 48 b (omega arith), lt-leb b 57 (omega arith), le-leb 97 b (omega arith), lt-leb b 102 h) refl

  -- by a bit of a number
  pub low_bit : 48 ≤ b → b ≤ 102 → eqb (lows_bits / 2 ^ (b - 48) % 2) 1 ≡ is lowhex b
  unfolding right every alike
  low_bit h k =
      let z : 48 + (b - 48) ≡ b = omega arith in
      alike_is (eqb (lows_bits / 2 ^ (b - 48) % 2) 1) (is lowhex (48 + (b - 48))) (every_at right 55 (b - 48) refl (omega arith)) ∙ ap (is lowhex) z

  -- the last four bits, and 9 more for a letter
  pub low_sum : is lowhex b ≡ true → (b % 16 + 9 * (b / 64) ≡ hexval b) × (b % 16 + 9 * (b / 64) < 16)
  low_sum e = by (or_of (within (48 to 57) b) (or (within (97 to 102) b) false) e)
    where
      lower : (within (97 to 102) b ≡ true) ⊎ (false ≡ true) → (b % 16 + 9 * (b / 64) ≡ hexval b) × (b % 16 + 9 * (b / 64) < 16)
      lower (inl x) = let h = range_of 97 102 b x in rw (lt-leb b 57 (omega arith), lt-leb b 70 (omega arith)) (omega arith, omega arith)
      lower (inr x) = absurd (clash x refl)

      by : (within (48 to 57) b ≡ true) ⊎ (or (within (97 to 102) b) false ≡ true) → (b % 16 + 9 * (b / 64) ≡ hexval b) × (b % 16 + 9 * (b / 64) < 16)
      by (inl x) = let h = range_of 48 57 b x in rw (le-leb b 57 h.1) (omega arith, omega arith)
      by (inr x) = lower (or_of (within (97 to 102) b) false x)

-- ---- scalar values

module _ (v : ℕ) where
  pub scalar_low : v ≤ 55295 → true ≡ scalar v
  scalar_low h = rw (le-leb 0 v (omega arith), le-leb v 55295 h) refl

  pub scalar_gap : 55295 < v → v < 57344 → false ≡ scalar v
  scalar_gap h k = rw (le-leb 0 v (omega arith), lt-leb v 55295 h, lt-leb 57344 v k) refl

  pub scalar_high : 57344 ≤ v → leb v 1114111 ≡ scalar v
  scalar_high h = rw (le-leb 0 v (omega arith), lt-leb v 55295 (omega arith), le-leb 57344 v h) (both (leb v 1114111))
    where
      both : (x : Bool) → x ≡ or x false
      both true = refl
      both false = refl

pub ruleset digits = (hex_below, hex_decimal, hex_middle, hex_upper, hex_between, hex_lower, hex_above, rules)

pub ruleset lows = (low_below, low_decimal, low_middle, low_lower, low_above, low_sum, rules)

pub ruleset lows_here = (class_in, low_byte, low_there, low_over, rules)

-- by a test
pub low_yes : (b : ℕ) (x : Bool) → x ≡ is lowhex b → x ≡ true → is lowhex b ≡ true
low_yes b x k e = sym k ∙ e

pub ruleset digit_reads = (low_yes, digit_over, digit_other, digit_read, class_other, class_read, hex_sub, low_sub, hex_over, low_over, rules)

pub ruleset scalars = (scalar_low, scalar_gap, scalar_high, rules)

-- ---- letters

module _ (b : ℕ) where
  pub letter_quote : b ≡ 34 → Letter b (Some 34)
  unfolding Letter
  letter_quote e = rw e (refl, refl)

  pub letter_slash : b ≡ 47 → Letter b (Some 47)
  unfolding Letter
  letter_slash e = rw e (refl, refl)

  pub letter_back : b ≡ 92 → Letter b (Some 92)
  unfolding Letter
  letter_back e = rw e (refl, refl)

  pub letter_b : b ≡ 98 → Letter b (Some 8)
  unfolding Letter
  letter_b e = rw e (refl, refl)

  pub letter_f : b ≡ 102 → Letter b (Some 12)
  unfolding Letter
  letter_f e = rw e (refl, refl)

  pub letter_n : b ≡ 110 → Letter b (Some 10)
  unfolding Letter
  letter_n e = rw e (refl, refl)

  pub letter_13 : b ≡ 114 → Letter b (Some 13)
  unfolding Letter
  letter_13 e = rw e (refl, refl)

  pub letter_t : b ≡ 116 → Letter b (Some 9)
  unfolding Letter
  letter_t e = rw e (refl, refl)

  pub letter_other : (b ≡ 34 → ⊥) → (b ≡ 47 → ⊥) → (b ≡ 92 → ⊥) → (b ≡ 98 → ⊥) → (b ≡ 102 → ⊥) → (b ≡ 110 → ⊥) → (b ≡ 114 → ⊥) → (b ≡ 116 → ⊥) → Letter b None
  unfolding Letter
  letter_other h₁ h₂ h₃ h₄ h₅ h₆ h₇ h₈ = rw (other 34 b h₁, other 92 b h₃, other 47 b h₂, other 98 b h₄, other 102 b h₅, other 110 b h₆, other 114 b h₇, other 116 b h₈) refl

pub ruleset letters = (letter_quote, letter_slash, letter_back, letter_b, letter_f, letter_n, letter_13, letter_t, letter_other, rules)
