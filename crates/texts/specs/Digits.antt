-- DIGITS OF A RUN, and of the text that the run is of. Assumes nothing.
use Rattle.std.specs.Prelude.{◌≡◌, false, List, ℕ, zero, suc, ◌+◌, ◌-◌, ◌≤◌, ◌<◌, length, get_or, drop}
use Rattle.std.proofs.Common.{sym, ap, subst, ◌∙◌, arith, get_or-drop, rules}
use Rattle.std.proofs.Math.Decide.{dec_le}
use Rattle.notation.specs.Class.{is}
use Rattle.language.specs.Scalars.{digit}
use Rattle.texts.specs.Float.{past_none, Digited}
use Rattle.texts.specs.Runs.{Coming, coming_start, coming_more, coming_over}
use Rattle.integers.specs.Text.{Run}

-- the first k bytes are digits
pub record Digital (s : List ℕ) (k : ℕ) : Type 0 where
  pub inside : k ≤ length s
  pub low : (j : ℕ) → j < k → 48 ≤ get_or s j 0
  pub high : (j : ℕ) → j < k → get_or s j 0 ≤ 57

pub digital_none : (s : List ℕ) → Digital s 0
digital_none s = record { inside = omega arith; low = λ j l. absurd (omega arith); high = λ j l. absurd (omega arith) }

module _ (s : List ℕ) (i : ℕ) (d : Digital s i) (l : i < length s) where
  pub digital_more : 48 ≤ get_or s i 0 → get_or s i 0 ≤ 57 → Digital s (i + 1)
  digital_more p q = record { inside = omega arith; low = λ j m. low j m (dec_le i j); high = λ j m. high j m (dec_le i j) }
    where
      low : (j : ℕ) → j < i + 1 → Dec (i ≤ j) → 48 ≤ get_or s j 0
      low j m (yes o) = let z : i ≡ j = omega arith in subst (λ (k : ℕ). 48 ≤ get_or s k 0) z p
      low j m (no o) = d.low j (omega arith)

      high : (j : ℕ) → j < i + 1 → Dec (i ≤ j) → get_or s j 0 ≤ 57
      high j m (yes o) = let z : i ≡ j = omega arith in subst (λ (k : ℕ). get_or s k 0 ≤ 57) z q
      high j m (no o) = d.high j (omega arith)

-- .. and they are all that stand at the front
pub record Leading (s : List ℕ) (k : ℕ) : Type 0 where
  pub inside : k ≤ length s
  pub low : (j : ℕ) → j < k → 48 ≤ get_or s j 0
  pub high : (j : ℕ) → j < k → get_or s j 0 ≤ 57
  pub stop : k < length s → is digit (get_or s k 0) ≡ false

module _ {s x : List ℕ} {a i k : ℕ} (come : Coming s a i) (r : Run s i x) (g : Leading x k) where
  steps : (j : ℕ) → j ≤ k → Coming s a (i + j)
  steps zero o = subst (Coming s a) (let e : i ≡ i + 0 = omega arith in e) come
  steps (suc j) o =
      let e = r.same j (omega (arith, g.inside)) in
      subst (Coming s a) (let z : i + j + 1 ≡ i + suc j = omega arith in z)
      (coming_more s a (i + j) (steps j (omega arith)) (omega (arith, r.inside, g.inside)) (omega (arith, e, g.low j (omega arith))) (omega (arith, e, g.high j (omega arith))))

  pub digits_on : Coming s a (i + k)
  digits_on = steps k (omega arith)

  pub digits_stop : k < length x → Digited s a (i + k)
  digits_stop l =
      let c = digits_on in
      record {
        onward = c.onward;
        inside = c.inside;
        past = c.so (drop (i + k) s) (past_none (ap (is digit) (get_or-drop (i + k) s 0 0 ∙ (ap (λ j. get_or s j 0) (let z : i + k + 0 ≡ i + k = omega arith in z) ∙ sym (r.same k l))) ∙ g.stop l));
      }

  pub digits_few : i + k ≤ 9223372036854775807
  digits_few = omega (arith, r.inside, r.few, g.inside)

  pub digits_less : (k < length x → ⊥) → length s - (i + k) < length s - i
  digits_less f = omega (arith, r.some, r.inside, g.inside)

pub digits_end : {s : List ℕ} {a i : ℕ} → Coming s a i → length s ≤ i → Digited s a i
digits_end {s} {a} {i} c f = coming_over s a i c f

pub ruleset digiting = (coming_start, digits_on, digits_stop, digits_few, digits_less, digits_end, rules)
