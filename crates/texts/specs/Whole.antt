-- WHOLE CHARACTERS IN A RUN (`Whole`): they stand there whatever follows the run, so in a text that has the run too (`run_behind`). Assumes nothing.
use Rattle.std.specs.Prelude.{◌≡◌, refl, List, ◌++◌, ℕ, zero, suc, ◌+◌, ◌≤◌, ◌<◌, length, get_or, take, drop}
use Rattle.std.proofs.Common.{sym, ap, subst, ◌∙◌, arith, length-append, length-drop, length-take, drop-drop, get_or-drop, get_or-take, ext_get_or, rules}
use Rattle.std.proofs.Math.Decide.{dec_le}
use Rattle.std.proofs.Math.ListN.{get_or-append, get_or-eq_default}
use Rattle.std.proofs.lemmas.List.{take-append-drop}
use Rattle.integers.specs.Text.{Run}
use Rattle.shaped.specs.Shaped.{Scripted}
use Rattle.texts.specs.Opens.{Inner, one, two, three_below, three_above, four}
use Rattle.texts.specs.Script.{Behind, OpensAt, LedAt, led_read, behind_self, behind_both, behind_step, behind_stuck, behind_end}

-- a character of m bytes begins at a place of a run, whatever follows the run; 0: its bytes do not tell
pub record Stepped (s : List ℕ) (i m : ℕ) : Type 0 where
  pub inside : i + m ≤ length s
  pub led : (m ≡ 0 → ⊥) → (y : List ℕ) → LedAt (s ++ y) i m

-- whole characters stand before a place of a run, whatever follows the run
pub record Whole (s : List ℕ) (i : ℕ) : Type 0 where
  pub inside : i ≤ length s
  pub behind : (y : List ℕ) → Behind (s ++ y) 0 i

-- ---- a character

module _ (s : List ℕ) (i : ℕ) (l : i < length s) where
  pub stepped_none : Stepped s i 0
  stepped_none = record { inside = omega arith; led = λ f y. absurd (f refl) }

  pub stepped_one : get_or s i 0 < 128 → Stepped s i 1
  stepped_one h = record { inside = omega arith; led = λ f y. one (let e = get_or-append s y 0 i l in omega arith) }

  -- the bytes within a character are none behind the run, where they are 0
  pub stepped_led : (m : ℕ) → LedAt s i m → Stepped s i m
  stepped_led zero x = stepped_none
  stepped_led (suc m) x = record { inside = inside x; led = λ f y. led y x }
    where
      -- a byte of the run stands there whatever follows
      same : (y : List ℕ) (j : ℕ) → j < length s → get_or s j 0 ≡ get_or (s ++ y) j 0
      same y j k = sym (get_or-append s y 0 j k)

      held : (j : ℕ) → Inner (get_or s j 0) → j < length s
      held j k = by (dec_le (length s) j)
        where
          by : Dec (length s ≤ j) → j < length s
          by (yes o) = absurd (omega (arith, k.low, get_or-eq_default s 0 o))
          by (no o) = omega arith

      inside : {n : ℕ} → OpensAt s i n → i + n ≤ length s
      inside (one h) = omega arith
      inside (two p q j) = omega (arith, held (i + 1) j)
      inside (three_below p q j k) = omega (arith, held (i + 2) k)
      inside (three_above p q j k) = omega (arith, held (i + 2) k)
      inside (four p q j k o) = omega (arith, held (i + 3) o)

      led : (y : List ℕ) {n : ℕ} → OpensAt s i n → OpensAt (s ++ y) i n
      led y (one h) = one (omega (arith, same y i l, h))
      led y (two p q j) = rw (sym (same y i l), sym (same y (i + 1) (held (i + 1) j))) (two p q j)
      led y (three_below p q j k) = rw (sym (same y i l), sym (same y (i + 1) (held (i + 1) j)), sym (same y (i + 2) (held (i + 2) k))) (three_below p q j k)
      led y (three_above p q j k) = rw (sym (same y i l), sym (same y (i + 1) (held (i + 1) j)), sym (same y (i + 2) (held (i + 2) k))) (three_above p q j k)
      led y (four p q j k o) = rw (sym (same y i l), sym (same y (i + 1) (held (i + 1) j)), sym (same y (i + 2) (held (i + 2) k)), sym (same y (i + 3) (held (i + 3) o))) (four p q j k o)

-- ---- characters one behind another

pub whole_start : (s : List ℕ) → Whole s 0
whole_start s = record { inside = omega arith; behind = λ y. behind_self (s ++ y) 0 (omega arith) }

module _ (s : List ℕ) (i : ℕ) (come : Whole s i) where
  pub whole_step : i < length s → (m : ℕ) → Stepped s i m → (m ≡ 0 → ⊥) → Whole s (i + m)
  whole_step l m x f =
      record {
        inside = x.inside;
        behind = λ y. behind_step (s ++ y) 0 i (come.behind y) (omega (arith, length-append s y)) m (x.led f y) f;
      }

-- .. and bytes below 128 alone from one place to another
pub record Plainly (s : List ℕ) (at i : ℕ) : Type 0 where
  pub onward : at ≤ i
  pub whole : Whole s i

pub plainly_start : (s : List ℕ) (at : ℕ) → Whole s at → Plainly s at at
plainly_start s at w = record { onward = omega arith; whole = w }

module _ (s : List ℕ) (at i : ℕ) (p : Plainly s at i) where
  pub plainly_more : i < length s → get_or s i 0 ≤ 127 → Plainly s at (i + 1)
  plainly_more l h = record { onward = omega (arith, p.onward); whole = whole_step s i p.whole l 1 (stepped_one s i l (omega arith)) (λ e. omega arith) }

  pub plainly_whole : Whole s i
  plainly_whole = p.whole

pub ruleset wholes = (stepped_none, stepped_one, stepped_led, whole_start, whole_step, plainly_whole, rules)

pub ruleset plains = (plainly_start, plainly_more, rules)

-- ---- in a text that has the run from a place on

whole_behind : (x y t : List ℕ) (at r : ℕ) → at ≤ length t → drop at t ≡ x ++ y → Whole x r → Behind t at (at + r)
whole_behind x y t at r l e w =
    let b = w.behind y in
    let z : drop (at + r) t ≡ drop r (x ++ y) = sym (drop-drop r at t) ∙ ap (drop r) e in
    record {
      onward = omega arith;
      inside = omega (arith, w.inside, length-append x y, length-drop at t, ap length e);
      there = λ p. subst Scripted (sym z) (b.there (subst Scripted e p));
      back = λ p. subst Scripted (sym e) (b.back (subst Scripted z p));
    }

module _ {s x : List ℕ} {at : ℕ} (r : Run s at x) where
  abbrev rest : List ℕ
  rest = drop at s

  run_front : take (length x) rest ≡ x
  run_front = ext_get_or 0 (take (length x) rest) x (omega (arith, length-take (length x) rest, length-drop at s, r.inside))
      (λ j l. let m : j < length x = omega (arith, length-take (length x) rest) in get_or-take (length x) rest j 0 m ∙ (get_or-drop at s j 0 ∙ sym (r.same j m)))

  run_rest : rest ≡ x ++ drop (length x) rest
  run_rest = sym (take-append-drop (length x) rest) ∙ ap (◌++ drop (length x) rest) run_front

  pub run_behind : {i : ℕ} → Whole x i → Behind s at (at + i)
  run_behind {i} w = whole_behind x (drop (length x) rest) s at i (omega (arith, r.inside)) run_rest w

  pub run_few : {i : ℕ} → Whole x i → at + i ≤ 9223372036854775807
  run_few w = omega (arith, r.inside, r.few, w.inside)

-- ---- is_script

module _ {s : List ℕ} {at : ℕ} where
  pub script_self : at ≤ length s → length s ≤ at → Behind s at at
  script_self l k = behind_self s at l

  module _ (come : Behind s 0 at) where
    pub script_inside : at ≤ length s
    script_inside = come.inside

    module _ (l : at < length s) {m : ℕ} (x : LedAt s at m) where
      script_step : (m ≡ 0 → ⊥) → Behind s 0 (at + m)
      script_step f = behind_step s 0 at come l m x f

      pub script_few : (m ≡ 0 → ⊥) → at + m ≤ length s
      script_few f = (script_step f).inside

      pub script_turn : (m ≡ 0 → ⊥) → {i : ℕ} → Behind s (at + m) i → Behind s 0 i
      script_turn f {i} y = behind_both s 0 (at + m) i (script_step f) y

      pub script_stuck : m ≡ 0 → Scripted s → ⊥
      script_stuck f = behind_stuck s at come l m x f

    pub script_end : length s ≤ at → Scripted s
    script_end l = behind_end s at come l

pub ruleset scripting = (run_behind, run_few, script_self, script_inside, script_few, script_turn, script_stuck, script_end, led_read, rules)
