-- Laws of digits at a place, as the tests and loops of the code say them. Assumes nothing.
use mathlib.Core.Path.{◌≡◌, refl, sym, ap, ◌∙◌}
use mathlib.Core.List.{List, [], ◌∷◌}
use mathlib.Core.Bool.{Bool, true, false}
use Prim.Native.Nat.{ℕ, zero, suc, ◌+◌, ◌-◌, ◌≤◌, ◌<◌}
use native.Mathlib.Numerals.{add-one}
use native.Mathlib.Omega.{arith}
use lib.ListN.{length, get_or, drop, length-drop}
use lib.Seq.{drop-drop, get_or-drop}
use borrow.Author.Rules.{rules}
use Rattle.exact.specs.Class.{pick, and_of, clash, is, only, none, only_no, only_yes, only_eq}
use Rattle.exact.specs.Place.{peek, run, run_end, run_none, run_more, There, there, byte_there, none_there}
use Rattle.language.specs.Scalars.{digit}
use Rattle.characters.specs.declared.Reading.{Reading}
use Rattle.characters.specs.Reads.{Skip}
use Rattle.std.specs.declared.option.Option.TheVariants.{None, Some}
use Rattle.std.specs.declared.result.Result.TheVariants.{Err, Ok}
use Rattle.characters.specs.Reads.{Took}
use Rattle.characters.specs.Reads.{ByteRead, byte_inside, byte_there as byte-taken, byte_next, byte_over}
use Rattle.characters.specs.Plains.{RunTo}
use Rattle.numbers.specs.declared.digits.Stretch.{Stretch}
use Rattle.numbers.specs.Digits.{next}
use Rattle.numbers.specs.Places.{tail, tail_digit, tail_false, tail_end, gap_at}
use Rattle.numbers.specs.Contract.{PastGap, no_gap, some_gap, Grouped}

pub digit_in : (doc : List ℕ) (at : ℕ) → is digit (peek doc at) ≡ true → at < length doc
digit_in doc at e = go (there doc at)
  where
    go : There doc at → at < length doc
    go (byte_there h) = omega (arith, ap length h, length-drop at doc)
    go (none_there h k) = absurd (clash e (ap (is digit) k))

-- WHAT GOES ON
tail_run : (spaced : Bool) (s : List ℕ) → tail spaced s ≡ run digit s + tail spaced (drop (run digit s) s)
unfolding tail run
tail_run spaced [] = refl
tail_run spaced (b ∷ s) = by (is digit b) refl (tail_run spaced s)
  where
    by : (x : Bool) → is digit b ≡ x → tail spaced s ≡ run digit s + tail spaced (drop (run digit s) s)
        → tail spaced (b ∷ s) ≡ pick x (suc (run digit s)) 0 + tail spaced (drop (pick x (suc (run digit s)) 0) (b ∷ s))
    by true e ih = rw e (omega arith)
    by false e ih = omega arith

run_stops : (s : List ℕ) → next (drop (run digit s) s) ≡ false
unfolding run
run_stops [] = refl
run_stops (b ∷ s) = by (is digit b) refl (run_stops s)
  where
    by : (x : Bool) → is digit b ≡ x → next (drop (run digit s) s) ≡ false → next (drop (pick x (suc (run digit s)) 0) (b ∷ s)) ≡ false
    by true e ih = ih
    by false e ih = e

next_peek : (doc : List ℕ) (at : ℕ) → next (drop at doc) ≡ is digit (peek doc at)
next_peek doc at = go (there doc at)
  where
    go : There doc at → next (drop at doc) ≡ is digit (peek doc at)
    go (byte_there h) = ap next h
    go (none_there h k) = ap next h ∙ sym (ap (is digit) k)

-- the run's end has no digit
ran_stops : (doc : List ℕ) (at e : ℕ) → e ≡ run_end digit doc at → is digit (peek doc e) ≡ false
ran_stops doc at e h = sym (next_peek doc e) ∙ (rw (h, ← drop-drop (run digit (drop at doc)) at doc) (run_stops (drop at doc)))

ran_some : (doc : List ℕ) (at e : ℕ) → e ≡ run_end digit doc at → is digit (peek doc at) ≡ true → at < e
ran_some doc at e h d =
    let i = digit_in doc at d in
    let m : run_end digit doc at ≡ run_end digit doc (at + 1) = run_more digit doc at i d in
    omega arith

ran_digit : (doc : List ℕ) (at e : ℕ) → e ≡ run_end digit doc at → (e ≡ at → ⊥) → is digit (peek doc at) ≡ true
ran_digit doc at e h k = go (is digit (peek doc at)) refl
  where
    go : (y : Bool) → is digit (peek doc at) ≡ y → is digit (peek doc at) ≡ true
    go true z = z
    go false z = absurd (k (h ∙ run_none digit doc at refl z))

-- its last byte is one
run_last : (s : List ℕ) (n : ℕ) → run digit s ≡ suc n → is digit (get_or s n 256) ≡ true
unfolding run
run_last [] n h = absurd (omega arith)
run_last (b ∷ s) n h = by (is digit b) refl n h (run digit s) refl (run_last s)
  where
    by : (x : Bool) → is digit b ≡ x → (n : ℕ) → pick x (suc (run digit s)) 0 ≡ suc n → (k : ℕ) → run digit s ≡ k
        → ((n : ℕ) → run digit s ≡ suc n → is digit (get_or s n 256) ≡ true) → is digit (get_or (b ∷ s) n 256) ≡ true
    by true e zero h k z ih = e
    by true e (suc n) h k z ih = ih n (omega arith)
    by false e n h k z ih = absurd (omega arith)

ran_solid : (doc : List ℕ) (at e : ℕ) → e ≡ run_end digit doc at → at < e → peek doc (e - 1) ≡ 32 → ⊥
ran_solid doc at e h l z = go (run digit (drop at doc)) refl
  where
    go : (k : ℕ) → run digit (drop at doc) ≡ k → ⊥
    go zero q = omega arith
    go (suc n) q =
        let i : e - 1 ≡ at + n = omega arith in
        let d : is digit (peek doc (e - 1)) ≡ true = rw (i, ← get_or-drop at doc n 256) (run_last (drop at doc) n q) in
        none digit (only 32) (peek doc (e - 1)) refl d (only_yes 32 (peek doc (e - 1)) z)

-- at its end, what goes on is the same
tail_ran : (spaced : Bool) (doc : List ℕ) (at e : ℕ) → e ≡ run_end digit doc at → tail_end spaced doc at ≡ tail_end spaced doc e
tail_ran spaced doc at e h =
    let n = run digit (drop at doc) in
    let q : drop n (drop at doc) ≡ drop (at + n) doc = drop-drop n at doc in
    rw h (omega (arith, rw q at (tail_run spaced (drop at doc))))

tail_gap : (doc : List ℕ) (e : ℕ) → gap_at doc e ≡ true → tail_end true doc e ≡ tail_end true doc (e + 1)
unfolding tail
tail_gap doc e h = go (there doc e) (and_of (is (only 32) (peek doc e)) (is digit (peek doc (e + 1))) h)
  where
    go : There doc e → (is (only 32) (peek doc e) ≡ true) × (is digit (peek doc (e + 1)) ≡ true) → tail_end true doc e ≡ tail_end true doc (e + 1)
    go (none_there q k) x = absurd (clash x.0 (ap (is (only 32)) k))
    go (byte_there q) x =
        let y : next (drop (suc e) doc) ≡ true = next_peek doc (suc e) ∙ rw add-one at x.1 in
        let z : is digit (peek doc e) ≡ false = rw (only_eq 32 (peek doc e) x.0) refl in
        rw (q, z, x.0, y, add-one) (omega arith)

tail_stop : (doc : List ℕ) (e : ℕ) → is digit (peek doc e) ≡ false → gap_at doc e ≡ false → tail_end true doc e ≡ e
unfolding tail
tail_stop doc e d h = go (there doc e)
  where
    go : There doc e → tail_end true doc e ≡ e
    go (none_there q k) = rw q (omega arith)
    go (byte_there q) =
        let y : next (drop (suc e) doc) ≡ is digit (peek doc (e + 1)) = next_peek doc (suc e) ∙ rw add-one refl in
        rw (q, d, y, h) (omega arith)

pub tail_some : (spaced : Bool) (doc : List ℕ) (at : ℕ) → is digit (peek doc at) ≡ true → at < tail_end spaced doc at
tail_some spaced doc at e = go (there doc at)
  where
    go : There doc at → at < tail_end spaced doc at
    go (byte_there h) = rw (h, tail_digit spaced (peek doc at) (drop (suc at) doc) e) (omega arith)
    go (none_there h k) = absurd (clash e (ap (is digit) k))

-- DIGITS WITH SPACES BETWEEN: the loop stands at e, behind a run of them
pub record Going (doc : List ℕ) (at e : ℕ) (dense : Bool) : Type 0 where
  pub from : tail_end true doc at ≡ tail_end true doc e
  pub begun : is digit (peek doc at) ≡ true
  pub over : is digit (peek doc e) ≡ false
  pub ahead : at ≤ e
  pub inside : e ≤ length doc
  pub one_run : dense ≡ true → e ≡ run_end digit doc at
  pub solid : peek doc (e - 1) ≡ 32 → ⊥

module _ (doc : List ℕ) (at : ℕ) where
  -- A GAP: a byte was taken, and behind a space n is the place behind the digits that follow it
  module _ (t : Took) (h : ByteRead doc at t) where
    pub gap_over : t ≡ None → PastGap doc at (Err at)
    gap_over e = no_gap (rw (byte_over doc at t h e) refl)

    module _ (b : ℕ) (d : Reading) (e : t ≡ Some (b, d)) where
      pub gap_other : (b ≡ 32 → ⊥) → PastGap doc at (Err at)
      gap_other k = no_gap (rw (only_no 32 (peek doc at) (λ z. k (byte-taken doc at t h b d e ∙ z))) refl)

      pub gap_inside : d.at ≤ length doc
      gap_inside = let i = byte_inside doc at t h b d e in omega (arith, byte_next doc at t h b d e)

      gap_is : (y : Bool) → b ≡ 32 → is digit (peek doc d.at) ≡ y → gap_at doc at ≡ y
      gap_is y z k = rw (only_yes 32 (peek doc at) (sym (byte-taken doc at t h b d e) ∙ z), ← byte_next doc at t h b d e) k

      pub gap_ends : (n : ℕ) → b ≡ 32 → RunTo digit doc d.at n → n ≡ d.at → PastGap doc at (Err at)
      gap_ends n z r k = no_gap (gap_is false z (rw (← k) (ran_stops doc d.at n r.is)))

      pub gap_goes : (n : ℕ) → b ≡ 32 → RunTo digit doc d.at n → (n ≡ d.at → ⊥) → PastGap doc at (Ok n)
      gap_goes n z r k = some_gap n (gap_is true z (ran_digit doc d.at n r.is k)) (rw (byte_next doc at t h b d e) at r)

  module _ (e : ℕ) where
    pub going_first : RunTo digit doc at e → (e ≡ at → ⊥) → Going doc at e true
    going_first r k =
        record {
          from = tail_ran true doc at e r.is;
          begun = ran_digit doc at e r.is k;
          over = ran_stops doc at e r.is;
          ahead = r.from;
          inside = r.inside;
          one_run = λ _. r.is;
          solid = ran_solid doc at e r.is (omega (arith, r.from));
        }

    pub going_more : (d : Bool) (s : Skip) (n : ℕ) → Going doc at e d → PastGap doc e s → s ≡ Ok n → Going doc at n false
    going_more d s n g x q = go (rw q at x)
      where
        go : PastGap doc e (Ok n) → Going doc at n false
        go (some_gap _ z r) =
            let k : is digit (peek doc (e + 1)) ≡ true = (and_of (is (only 32) (peek doc e)) (is digit (peek doc (e + 1))) z).1 in
            record {
              from = g.from ∙ (tail_gap doc e z ∙ tail_ran true doc (e + 1) n r.is);
              begun = g.begun;
              over = ran_stops doc (e + 1) n r.is;
              ahead = omega (arith, g.ahead, r.from);
              inside = r.inside;
              one_run = λ z. absurd (clash z refl);
              solid = ran_solid doc (e + 1) n r.is (ran_some doc (e + 1) n r.is k);
            }

    pub going_less : (s : Skip) (n : ℕ) → PastGap doc e s → s ≡ Ok n → length doc - n < length doc - e
    going_less s n x q = go (rw q at x)
      where
        go : PastGap doc e (Ok n) → length doc - n < length doc - e
        go (some_gap _ z r) = omega (arith, r.from, r.inside)

  module _ (e : Reading) where
    pub going_done : (d : Bool) (s : Skip) (p : ℕ) → Going doc at e.at d → PastGap doc e.at s → s ≡ Err p → Grouped true doc at (record { end = e; dense = d })
    going_done d s p g x q = go p (rw q at x)
      where
        go : (p : ℕ) → PastGap doc e.at (Err p) → Grouped true doc at (record { end = e; dense = d })
        go _ (no_gap z) =
            record { end = sym (rw g.begun (g.from ∙ tail_stop doc e.at g.over z)); ahead = g.ahead; inside = g.inside; dense = g.one_run; solid = λ _. g.solid }

    pub group_none : RunTo digit doc at e.at → e.at ≡ at → Grouped true doc at (record { end = e; dense = true })
    group_none r k =
        let z : is digit (peek doc at) ≡ false = rw (← k) (ran_stops doc at e.at r.is) in
        record { end = rw (z, k); ahead = r.from; inside = r.inside; dense = λ _. r.is; solid = λ n. absurd (n k) }

    group_false : RunTo digit doc at e.at → Grouped false doc at (record { end = e; dense = true })
    group_false r =
        record {
          end = r.is ∙ go (is digit (peek doc at)) refl;
          ahead = r.from;
          inside = r.inside;
          dense = λ _. r.is;
          solid = λ n. ran_solid doc at e.at r.is (omega (arith, r.from));
        }
      where
        go : (y : Bool) → is digit (peek doc at) ≡ y → run_end digit doc at ≡ pick y (tail_end false doc at) at
        go true z = ap (λ n. at + n) (sym (tail_false (drop at doc)))
        go false z = run_none digit doc at refl z

    pub group_plain : (spaced : Bool) → spaced ≡ false → RunTo digit doc at e.at → Grouped spaced doc at (record { end = e; dense = true })
    group_plain spaced h r = rw h (group_false r)

pub group_spaced : (doc : List ℕ) (at : ℕ) (spaced : Bool) (g : Stretch) → spaced ≡ true → Grouped true doc at g → Grouped spaced doc at g
group_spaced doc at spaced g h x = rw h x

pub ruleset gap_laws = (gap_over, gap_other, gap_inside, gap_ends, gap_goes, rules)

pub ruleset digit_laws = (going_first, going_more, going_less, going_done, group_none, group_plain, group_spaced, rules)
