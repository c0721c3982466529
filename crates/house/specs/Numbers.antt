-- NUMBERS AND KEYWORDS: their texts are read back as they are. Assumes nothing.
use Rattle.std.specs.Prelude.{◌≡◌, refl, List, [], ◌∷◌, ◌++◌, Bool, true, false, ℕ, ◌+◌, length}
use Rattle.std.proofs.Common.{ap, append_assoc, arith, length-append}
use Rattle.notation.specs.Class.{◌to◌, is, only}
use Rattle.notation.specs.Lang.{Lang, Ret, Here, Byte, Seq, Map, Alt}
use Rattle.exact.specs.Class.{only_is}
use Rattle.language.specs.Kind.{FLOAT}
use Rattle.language.specs.Tree.{unescaped, leaf}
use Rattle.language.specs.Characters.{Option}
use Rattle.language.specs.Scalars.{nan_word, infinity_word, Keyword, digit, Further, Digits, One, Pointed, Exponent, Float, Plain}
use Rattle.shaped.specs.Shaped
use Rattle.shaped.specs.Shaped.{Number, number, digits_none, digits_more, Minus, plus, minus, Power, power, power_plus, power_minus, Powers, no_power, one_power}
use Rattle.shaped.specs.Shaped.{Decimal, pointed, broken, raised, FloatText, no_number, infinite, less_infinite, decimal}
use Rattle.house.specs.Spells.{Reads, revalued, one_reads, two_reads, ret_reads, seq_reads, last_reads, here_then, byte_reads, byte_then, word_reads}
use Rattle.house.specs.Each.{All, all_none, all_more, star_each}

-- KEYWORDS
pub keyword_reads : {at kind : ℕ} (word text : List ℕ) → Reads (Keyword kind word text) at word (leaf kind at (at + length word) (unescaped text))
keyword_reads word text = here_then (last_reads (word_reads word) (here_then ret_reads))

pub all_digits : {ds : List ℕ} → Shaped.Digits ds → All (is digit) ds
all_digits digits_none = all_none
all_digits (digits_more e x) = all_more e (all_digits x)

-- a byte as a text; a sign or none
mark_reads : {f : ℕ → Bool} {at b : ℕ} → f b ≡ true → Reads (Map (λ x. x ∷ []) (Byte f)) at (b ∷ []) (b ∷ [])
mark_reads e = byte_then e ret_reads

pub minus_reads : {at : ℕ} {m : List ℕ} → Minus m → Reads (Option (One (only 45))) at m m
minus_reads plus = two_reads ret_reads
minus_reads minus = one_reads (mark_reads (only_is 45))

-- two texts, one behind the other
both_read : {A B : Lang (List ℕ)} {at : ℕ} {w u : List ℕ} → Reads A at w w → Reads B (at + length w) u u
    → Reads (Seq A (λ p. Seq B (λ q. Ret (p ++ q)))) at (w ++ u) (w ++ u)
both_read f g = seq_reads f (last_reads g ret_reads)

-- a sign, a text, and the row of both
pub signed_reads : {W : Lang (List ℕ)} {kind at : ℕ} {m w : List ℕ} (f : List ℕ → List ℕ → List ℕ) → Minus m
    → Reads W (at + length m) w w → f m w ≡ m ++ w
    → Reads
    (Seq Here (λ a. Seq (Option (One (only 45))) (λ m. Seq W (λ w. Seq Here (λ e. Ret (leaf kind a e (unescaped (f m w))))))))
    at
    (m ++ w)
    (leaf kind at (at + length (m ++ w)) (unescaped (m ++ w)))
signed_reads {kind = kind} {at = at} {m = m} {w = w} f x r h =
    let p : at + length m + length w ≡ at + length (m ++ w) = omega (arith, length-append m w) in
    revalued (cc (ap unescaped h)) (here_then (seq_reads (minus_reads x) (last_reads r (here_then ret_reads))))

-- where spaces between digits are allowed or where not: what is written has none
module _ (spaced : Bool) where
  further_reads : (at b : ℕ) → is digit b ≡ true → Reads (Further spaced) at (b ∷ []) b
  further_reads at b e = by spaced
    where
      by : (spaced : Bool) → Reads (Further spaced) at (b ∷ []) b
      by true = one_reads (byte_reads e)
      by false = byte_reads e

  pub digits_from : {at d : ℕ} {ds : List ℕ} → is digit d ≡ true → All (is digit) ds → Reads (Digits spaced) at (d ∷ ds) (d ∷ ds)
  digits_from e x = byte_then e (last_reads (star_each further_reads x) ret_reads)

  digits_read : {at : ℕ} {ds : List ℕ} → Number ds → Reads (Digits spaced) at ds ds
  digits_read (number e x) = digits_from e (all_digits x)

  some_digits : {at : ℕ} {ds : List ℕ} → Shaped.Digits ds → Reads (Option (Digits spaced)) at ds ds
  some_digits digits_none = two_reads ret_reads
  some_digits (digits_more e x) = one_reads (digits_from e (all_digits x))

  -- an exponent: `e`, a sign or none, digits
  raised_reads : {at : ℕ} {s ds : List ℕ} → ((at : ℕ) → Reads (Option (One ((43 to 43) ∷ (45 to 45) ∷ []))) at s s) → Number ds
      → Reads (Exponent spaced) at (101 ∷ s ++ ds) (101 ∷ s ++ ds)
  raised_reads f d = seq_reads (mark_reads (only_is 101)) (seq_reads (f _) (last_reads (digits_read d) ret_reads))

  power_reads : {at : ℕ} {x : List ℕ} → Power x → Reads (Exponent spaced) at x x
  power_reads (power d) = raised_reads (λ at. two_reads ret_reads) d
  power_reads (power_plus d) = raised_reads (λ at. one_reads (mark_reads refl)) d
  power_reads (power_minus d) = raised_reads (λ at. one_reads (mark_reads refl)) d

  powers_read : {at : ℕ} {x : List ℕ} → Powers x → Reads (Option (Exponent spaced)) at x x
  powers_read no_power = two_reads ret_reads
  powers_read (one_power x) = one_reads (power_reads x)

  -- FLOATS: their words, and with `nan` and the two infinities
  point_reads : {at : ℕ} {ds fs : List ℕ} → Number ds → Shaped.Digits fs → Reads (Pointed spaced) at (ds ++ 46 ∷ fs) (ds ++ 46 ∷ fs)
  point_reads {ds = ds} {fs = fs} n f =
      one_reads (revalued (append_assoc ds (46 ∷ []) fs) (seq_reads (digits_read n) (seq_reads (mark_reads (only_is 46)) (last_reads (some_digits f) ret_reads))))

  decimal_reads : {at : ℕ} {w : List ℕ} → Decimal w
      → Reads
      (Alt (Seq (Pointed spaced) (λ p. Seq (Option (Exponent spaced)) (λ x. Ret (p ++ x)))) (Seq (Digits spaced) (λ ds. Seq (Exponent spaced) (λ x. Ret (ds ++ x)))))
      at
      w
      w
  decimal_reads (pointed n f x) = one_reads (both_read (point_reads n f) (powers_read x))
  decimal_reads (broken n x) = one_reads (both_read (two_reads (both_read (mark_reads (only_is 46)) (digits_read n))) (powers_read x))
  decimal_reads (raised n x) = two_reads (both_read (digits_read n) (power_reads x))

  pub float_reads : {at : ℕ} {m w : List ℕ} → Minus m → Decimal w → Reads (Float spaced) at (m ++ w) (leaf FLOAT at (at + length (m ++ w)) (unescaped (m ++ w)))
  float_reads s x = signed_reads ◌++◌ s (decimal_reads x) refl

  pub plain_float : {at : ℕ} {s : List ℕ} → FloatText s → Reads (Plain spaced) at s (leaf FLOAT at (at + length s) (unescaped s))
  plain_float no_number = one_reads (two_reads (one_reads (keyword_reads nan_word nan_word)))
  plain_float infinite = one_reads (two_reads (two_reads (one_reads (keyword_reads infinity_word infinity_word))))
  plain_float less_infinite = one_reads (two_reads (two_reads (two_reads (keyword_reads (45 ∷ infinity_word) (45 ∷ infinity_word)))))
  plain_float (decimal s x) = two_reads (two_reads (float_reads s x))
