-- BYTES OF A CONTENT THAT STAND ONE BEHIND ANOTHER (`Runs`), which a walk over keys carries along (`Run`): a key told by its bytes there tells where the next one stands (`made_run`). Assumes nothing.
use Rattle.std.specs.Prelude.{◌≡◌, List, ℕ, ◌+◌, ◌-◌, ◌≤◌, ◌<◌, length, get_or, take, drop}
use Rattle.std.proofs.Common.{sym, ap, ◌∙◌, arith, length-drop, get_or-drop, get_or-take, length-take-le}
use Rattle.std.proofs.Math.Decide.{dec_le}
use Rattle.std.proofs.Math.Seq.{slice}
use Rattle.language.specs.Lent.{lent}
use Rattle.views.specs.Views.{viewed, place_of}
use Rattle.wide.specs.Near.{Nearby}
use Rattle.std.specs.Prelude.{Some}
use Rattle.cutkeys.specs.declared.keys.Named.{Named}

-- BYTES s of a content from `at` on that stand from `place` on
pub record Runs (stored starts : List ℕ) (d at stop place : ℕ) (s : List ℕ) : Type 0 where
  pub short : length s ≤ 65535
  pub below : at + length s ≤ stop
  pub bytes : (j : ℕ) → j < length s → get_or s j 0 ≡ get_or (viewed stored starts d) (at + j) 0
  pub same : (j : ℕ) → j < length s → place_of starts d (at + j) ≡ place + j

pub get_d_slice : (a e : ℕ) (l : List ℕ) (j : ℕ) → a + j < e → get_or (slice a e l) j 0 ≡ get_or l (a + j) 0
get_d_slice a e l j h = get_or-drop a (take e l) j 0 ∙ get_or-take e l (a + j) 0 h

-- .. `left` of them, as a walk carries them along: 0 and 0 if it is not known where they stand
pub record Run (stored starts : List ℕ) (d at stop spot left : ℕ) : Type 0 where
  pub inside : spot + left ≤ length stored
  pub few : left ≤ 65535
  pub below : 0 < left → at + left ≤ stop
  pub bytes : (j : ℕ) → j < left → get_or stored (spot + j) 0 ≡ get_or (viewed stored starts d) (at + j) 0
  pub same : (j : ℕ) → j < left → place_of starts d (at + j) ≡ spot + j

module _ (stored starts : List ℕ) (d at stop : ℕ) where
  pub run_none : Run stored starts d at stop 0 0
  run_none = record { inside = omega arith; few = omega arith; below = λ l. absurd (omega arith); bytes = λ j l. absurd (omega arith); same = λ j l. absurd (omega arith) }

  pub run_unknown : (spot left : ℕ) → spot ≡ 0 → left ≡ 0 → Run stored starts d at stop spot left
  run_unknown spot left e f = rw e (rw f run_none)

  module _ (spot left : ℕ) where
    abbrev bit : List ℕ
    bit = take (spot + left - spot) (drop spot stored)

    pub run_near : Nearby stored starts d at stop spot left → Run stored starts d at stop spot left
    run_near n =
        record {
          inside = n.inside;
          few = n.few;
          below = λ l. n.below;
          bytes = λ j l. sym (get_d_slice spot (spot + left) stored j (omega arith)) ∙ (ap (λ (x : List ℕ). get_or x j 0) (sym n.is) ∙ get_d_slice at (at + left) (viewed stored starts d) j (omega arith));
          same = n.same;
        }

    module _ (r : Run stored starts d at stop spot left) where
      pub run_length : length bit ≡ left
      run_length = length-take-le (spot + left - spot) (drop spot stored) (omega (arith, length-drop spot stored, r.inside)) ∙ omega arith

      pub run_runs : at ≤ stop → Runs stored starts d at stop spot bit
      run_runs o =
          record {
            short = omega (arith, run_length, r.few);
            below = by (dec_le 1 left);
            bytes = λ j l.
                let k : j < left = omega (arith, run_length) in
                get_or-take (spot + left - spot) (drop spot stored) j 0 (omega arith) ∙ (get_or-drop spot stored j 0 ∙ r.bytes j k);
            same = λ j l. r.same j (omega (arith, run_length));
          }
        where
          by : Dec (1 ≤ left) → at + length bit ≤ stop
          by (yes h) = omega (arith, run_length, r.below h)
          by (no h) = omega (arith, run_length)

      pub run_shift : (i : ℕ) → i ≤ left → Run stored starts d (at + i) stop (spot + i) (left - i)
      run_shift i h =
          record {
            inside = omega (arith, r.inside);
            few = omega (arith, r.few);
            below = λ l. omega (arith, r.below (omega arith));
            bytes = λ j l. ap (λ x. get_or stored x 0) (over spot j) ∙ (r.bytes (i + j) (omega arith) ∙ ap (λ x. get_or (viewed stored starts d) x 0) (sym (over at j)));
            same = λ j l. ap (place_of starts d) (over at j) ∙ (r.same (i + j) (omega arith) ∙ sym (over spot j));
          }
        where
          over : (a j : ℕ) → a + i + j ≡ a + (i + j)
          over a j = omega arith

pub near_runs : (stored starts : List ℕ) (d at stop place left : ℕ) → Nearby stored starts d at stop place left → Runs stored starts d at stop place (take (place + left - place) (drop place stored))
near_runs stored starts d at stop place left n = run_runs stored starts d at stop place left (run_near stored starts d at stop place left n) (omega (arith, n.below))

-- WHAT IS MADE of the ends of the key's field and its value's, which stand from `place` on with `left` bytes before the cut
pub record MadeAsked (at place left end next : ℕ) : Type 0 where
  pub far : at + next ≤ lent
  pub to : place + end ≤ lent
  pub begins : 3 ≤ end
  pub few : place + left ≤ lent

pub record Made (at place rest end far : ℕ) (k : Named) : Type 0 where
  pub text : k.text ≡ Some (record { from = place + 3; to = place + end })
  pub next : k.next ≡ at + far
  pub spot : far ≤ rest → k.reach.place ≡ place + far
  pub left : far ≤ rest → k.reach.left ≡ rest - far
  pub no_spot : rest < far → k.reach.place ≡ 0
  pub no_left : rest < far → k.reach.left ≡ 0

-- THE RUN OF THE NEXT KEY
module _ (at place left end next : ℕ) where
  pub made_run : (stored starts : List ℕ) (d stop : ℕ) → Run stored starts d at stop place left → (k : Named) → Made at place left end next k → Run stored starts d k.next stop k.reach.place k.reach.left
  made_run stored starts d stop r k m = by (dec_le next left)
    where
      by : Dec (next ≤ left) → Run stored starts d k.next stop k.reach.place k.reach.left
      by (yes h) = rw m.next (rw (m.spot h) (rw (m.left h) (run_shift stored starts d at stop place left r next h)))
      by (no h) = let l : left < next = omega arith in run_unknown stored starts d k.next stop k.reach.place k.reach.left (m.no_spot l) (m.no_left l)
