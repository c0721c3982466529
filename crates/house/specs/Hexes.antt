-- HEX DIGITS as they are written: they are digits, and their number is the one written. Assumes nothing.
use Rattle.std.specs.Prelude.{◌≡◌, refl, List, [], ◌∷◌, ◌++◌, ◌⊎◌, true, false, ℕ, zero, suc, ◌+◌, ◌*◌, ◌/◌, ◌%◌, ◌≤◌, ◌<◌, length}
use Rattle.std.proofs.Common.{ap, ◌∙◌, inl, inr, arith, length-append, le-leb}
use Rattle.std.proofs.Math.Decide.{dec_le}
use Rattle.std.proofs.lemmas.Bool.{lt-leb}
use Rattle.notation.specs.Class.{◌to◌, Class, within, is}
use Rattle.exact.specs.Class.{clash, leb_yes, and_true, sub, inside, or_left, or_right, or_of, range_of}
use Rattle.language.specs.Strings.{hexdigit, lowhex, hexval, hex_number, scalar, Code}
use Rattle.language.specs.House.{hexletter, hexes}
use Rattle.utf8.specs.OverNumbers.{within_yes}
use Rattle.house.specs.Spells.{Reads, byte_reads, such_reads}
use Rattle.house.specs.Each.{All, all_none, all_more, all_append, plus_each}

-- from a class to its least and its greatest number
pub bounds : (c : Class) (l h v : ℕ) → sub c ((l to h) ∷ []) ≡ true → is c v ≡ true → (l ≤ v) × (v ≤ h)
bounds c l h v s e = by (or_of (within (l to h) v) false (inside c ((l to h) ∷ []) v s e))
  where
    by : (within (l to h) v ≡ true) ⊎ (false ≡ true) → (l ≤ v) × (v ≤ h)
    by (inl x) = range_of l h v x
    by (inr x) = absurd (clash x refl)

-- a digit
pub hexletter_low : (d : ℕ) → d ≤ 15 → is lowhex (hexletter d) ≡ true
hexletter_low d h = by (dec_le d 9)
  where
    by : Dec (d ≤ 9) → is lowhex (hexletter d) ≡ true
    by (yes x) = rw (le-leb d 9 x) (or_left (is ((97 to 102) ∷ []) (48 + d)) (within_yes 48 57 (48 + d) (omega arith) (omega arith)))
    by (no x) = rw (lt-leb d 9 (omega arith)) (or_right (within (48 to 57) (87 + d)) (or_left false (within_yes 97 102 (87 + d) (omega arith) (omega arith))))

pub hexletter_digit : (d : ℕ) → d ≤ 15 → is hexdigit (hexletter d) ≡ true
hexletter_digit d h = inside lowhex hexdigit (hexletter d) refl (hexletter_low d h)

pub hexletter_value : (d : ℕ) → d ≤ 15 → hexval (hexletter d) ≡ d
hexletter_value d h = by (dec_le d 9)
  where
    by : Dec (d ≤ 9) → hexval (hexletter d) ≡ d
    by (yes x) = rw (le-leb d 9 x, le-leb (48 + d) 57 (omega arith)) (omega arith)
    by (no x) = rw (lt-leb d 9 (omega arith), lt-leb (87 + d) 57 (omega arith), lt-leb (87 + d) 70 (omega arith)) (omega arith)

-- 16 ^ n numbers have n digits or fewer
abbrev room : ℕ → ℕ
room zero = 1
room (suc n) = 16 * room n

number_append : (s t : List ℕ) (v : ℕ) → hex_number v (s ++ t) ≡ hex_number (hex_number v s) t
unfolding hex_number
number_append [] t v = refl
number_append (d ∷ s) t v = number_append s t (16 * v + hexval d)

record Hexed (n v : ℕ) : Type 0 where
  digits : All (is hexdigit) (hexes n v)
  few : length (hexes n v) ≤ n
  number : v < room n → hex_number 0 (hexes n v) ≡ v

hexed : (n v : ℕ) → Hexed n v
unfolding hex_number hexes
hexed zero v = record { digits = all_none; few = omega arith; number = λ h. omega arith }
hexed (suc n) v = by (dec_le v 15) (hexed n (v / 16))
  where
    by : Dec (v ≤ 15) → Hexed n (v / 16) → Hexed (suc n) v
    by (yes x) i =
        record {
          digits = rw (le-leb v 15 x) (all_more (hexletter_digit v x) all_none);
          few = rw (le-leb v 15 x) (omega arith);
          number = λ h. rw (le-leb v 15 x) (omega (arith, hexletter_value v x));
        }
    by (no x) i =
        let s = hexes n (v / 16) in
        let d = hexletter (v % 16) ∷ [] in
        let e = lt-leb v 15 (omega arith) in
        record {
          digits = rw e (all_append i.digits (all_more (hexletter_digit (v % 16) (omega arith)) all_none));
          few = rw e (omega (arith, length-append s d, i.few));
          number = λ h. rw e (number_append s d 0 ∙ omega (arith, i.number (omega arith), hexletter_value (v % 16) (omega arith)));
        }

-- at least one
hexes_some : (n v : ℕ) → 1 ≤ length (hexes (suc n) v)
unfolding hexes
hexes_some n v = by (dec_le v 15)
  where
    by : Dec (v ≤ 15) → 1 ≤ length (hexes (suc n) v)
    by (yes x) = rw (le-leb v 15 x) (omega arith)
    by (no x) = rw (lt-leb v 15 (omega arith)) (omega (arith, length-append (hexes n (v / 16)) (hexletter (v % 16) ∷ [])))

pub scalar_small : (v : ℕ) → scalar v ≡ true → v ≤ 0x10FFFF
scalar_small v e = (bounds ((0 to 0xD7FF) ∷ (0xE000 to 0x10FFFF) ∷ []) 0 0x10FFFF v refl e).1

pub code_number : (v : ℕ) → scalar v ≡ true → hex_number 0 (hexes 6 v) ≡ v
code_number v e = (hexed 6 v).number (omega (arith, scalar_small v e))

-- a scalar value named by its hex digits
pub code_reads : {at : ℕ} (v : ℕ) → scalar v ≡ true → Reads Code at (hexes 6 v) (hexes 6 v)
code_reads v e =
    such_reads
    (and_true (leb_yes (length (hexes 6 v)) 6 (hexed 6 v).few) (ap scalar (code_number v e) ∙ e))
    (plus_each (λ at b h. byte_reads h) (hexed 6 v).digits (hexes_some 5 v))
