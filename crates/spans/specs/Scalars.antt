-- KEYWORDS AND NUMBERS in their bytes. Assumes nothing.
use Rattle.std.specs.Prelude.{refl, List, [], ◌∷◌, ◌++◌, Bool, true, false, ℕ, suc, ◌+◌, ◌≤◌, ◌<◌, length, eqb}
use Rattle.std.proofs.Common.{arith}
use Rattle.notation.specs.Class.{Class, only, ◌to◌}
use Rattle.language.specs.Kind.{NULL, FALSE, TRUE, INTEGER, FLOAT}
use Rattle.language.specs.Tree.{unescaped, leaf}
use Rattle.language.specs.Scalars.{null_word, true_word, false_word, nan_word, infinity_word, Keyword, Keywords, Further, Digits, One, plain, minus, signed, Integer, Pointed, Exponent, Float, Plain}
use Rattle.spans.specs.Every.{Every, ret_every, here_then, byte_every, byte_then, bind_every, via, map_every, alt_every, word_then}
use Rattle.spans.specs.Formed.{Formed, formed_word, formed_text}
use Rattle.spans.specs.Lies.{Lies}
use Rattle.spans.specs.Texts.{Fits, Some, Steps, joined, star_fits, byte_steps, option_fits, pick_le}

-- digits
pub further_steps : (spaced : Bool) (at : ℕ) → Every (Further spaced) at (Steps at)
further_steps false at = byte_steps at
further_steps true at = alt_every (byte_steps at) (byte_then (λ b. byte_every (λ c. omega arith)))

pub digits_some : (spaced : Bool) (at : ℕ) → Every (Digits spaced) at (Some at)
digits_some spaced at = byte_then (λ d. bind_every (star_fits (further_steps spaced) (suc at)) (λ ds m h. ret_every (omega arith, omega arith)))

digits_fits : (spaced : Bool) (at : ℕ) → Every (Digits spaced) at (Fits at)
digits_fits spaced at = via (digits_some spaced at) (λ v m h. h.0)

pub one_some : (c : Class) (at : ℕ) → Every (One c) at (Some at)
one_some c at = map_every (λ b. b ∷ []) (byte_every (λ b. (omega arith, omega arith)))

pub one_fits : (c : Class) (at : ℕ) → Every (One c) at (Fits at)
one_fits c at = via (one_some c at) (λ v m h. h.0)

-- an integer's text is not longer than its sign and its digits
pub plain_le : (ds : List ℕ) → length (plain ds) ≤ length ds
unfolding plain
plain_le [] = omega arith
plain_le (d ∷ []) = omega arith
plain_le (d ∷ e ∷ ds) = let h = plain_le (e ∷ ds) in pick_le (eqb d 48) (plain (e ∷ ds)) (d ∷ e ∷ ds) (omega arith) (omega arith)

pub minus_le : (ds : List ℕ) → length (minus ds) ≤ suc (length ds)
unfolding minus
minus_le [] = omega arith
minus_le (d ∷ ds) = pick_le (eqb d 48) (d ∷ ds) (45 ∷ d ∷ ds) (omega arith) (omega arith)

pub signed_le : (m ds : List ℕ) → length (signed m ds) ≤ length m + length ds
signed_le [] ds = let h = plain_le ds in omega arith
signed_le (m ∷ ms) ds = let h = plain_le ds in let k = minus_le (plain ds) in omega arith

pub pointed_some : (spaced : Bool) (at : ℕ) → Every (Pointed spaced) at (Some at)
pointed_some spaced at =
    alt_every
    (bind_every
    (digits_some spaced at)
    (λ ds m h. bind_every (one_fits (only 46) m) (λ p n k. bind_every (option_fits n (digits_fits spaced n)) (λ fs e l. ret_every (by ds p fs h.0 h.1 k l)))))
    (bind_every (one_some (only 46) at) (λ p m h. bind_every (digits_fits spaced m) (λ fs e l. ret_every (two p fs h.0 h.1 l))))
  where
    two : {m e : ℕ} (p fs : List ℕ) → Fits at p m → at < m → Fits m fs e → Some at (p ++ fs) e
    two p fs h k l = let x = joined p fs in (omega arith, omega arith)

    by : {m n e : ℕ} (ds p fs : List ℕ) → Fits at ds m → at < m → Fits m p n → Fits n fs e → Some at (ds ++ p ++ fs) e
    by ds p fs h k l o = let x = joined (ds ++ p) fs in let y = joined ds p in (omega arith, omega arith)

pub exponent_fits : (spaced : Bool) (at : ℕ) → Every (Exponent spaced) at (Fits at)
exponent_fits spaced at =
    bind_every
    (one_fits (only 101) at)
    (λ x m h. bind_every
    (option_fits m (one_fits ((43 to 43) ∷ (45 to 45) ∷ []) m))
    (λ s n k. bind_every (digits_fits spaced n) (λ ds e l. ret_every (omega (arith, joined (x ++ s) ds, joined x s)))))
