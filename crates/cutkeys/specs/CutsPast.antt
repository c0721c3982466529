-- KEYS THAT ARE PASSED since their texts are of another length, or have other last bytes: in bytes that are not cut (`Passes`), and so in a content (`Skipped`). Assumes nothing.
use Rattle.std.specs.Prelude.{◌≡◌, List, ◌∷◌, Bool, true, ℕ, ◌+◌, ◌-◌, ◌≤◌, ◌<◌, length, take, drop}
use Rattle.std.proofs.Common.{sym, subst, ◌∙◌, arith, Fits, rules}
use Rattle.std.proofs.Math.Seq.{slice}
use Rattle.std.specs.Int.{w64}
use Rattle.language.specs.Lent.{lent}
use Rattle.distinct.specs.Names.{Part}
use Rattle.distinct.specs.Roads.{Road, walks_le, Comes, comes_first, comes_on}
use Rattle.distinct.specs.Windows.{Open, open_good, open_next}
use Rattle.uncut.specs.Heads as heads
use Rattle.views.specs.Views.{viewed, view_less, Content}
use Rattle.wide.specs.Near.{Nearby}
use Rattle.std.specs.Prelude.{Option, Some}
use Rattle.cutkeys.specs.declared.keys.Pair.{Pair}
use Rattle.cutkeys.specs.Places.{text_at}
use Rattle.cutkeys.specs.Keys.{all_keys}
use Rattle.cutkeys.specs.Runs.{Runs, near_runs}
use Rattle.cutkeys.specs.Near.{Pairs, Paired, pair_next, pair_text}
use Rattle.cutkeys.specs.Alone.{Other, other_here, other_later}
use Rattle.cutkeys.specs.CutsEnds.{Ends, Bars, Differs}

-- ---- in bytes that are not cut

-- what is asked of the room, and of the bytes
pub record PastAsked (s room : List ℕ) (m n : ℕ) : Type 0 where
  pub short : length s ≤ 65535
  pub some : m ≤ n
  pub held : m ≤ length room

-- keys from 0 to i are none of those sought
pub data Passes (s room : List ℕ) (m n : ℕ) : ℕ → Type 0 where
  passes_none : Passes s room m n 0
  passes_more : {i e f : ℕ} → Passes s room m n i → Pairs s i e f → Bars (slice (i + 3) e s) room m n → Passes s room m n f

module _ (s room : List ℕ) (m n : ℕ) where
  pub past_none : Passes s room m n 0
  past_none = passes_none

  module _ (h : PastAsked s room m n) where
    pub past_some : m ≤ n
    past_some = h.some

    pub past_room : m ≤ length room
    past_room = h.held

    module _ (i : ℕ) (l : i < length s) where
      pub past_asked : (i ≤ length s) × (length s ≤ 65535)
      past_asked = (omega arith, h.short)

      pub past_few : i ≤ 65535
      past_few = omega (arith, h.short)

      module _ (o : Option Pair) (p : Paired s i o) (k : Pair) (f : o ≡ Some k) where
        pairs : Pairs s i k.end k.next
        pairs = p.near k f

        pub past_part : Part s (i + 3) k.end
        past_part = record { order = pairs.begins; fits = omega (arith, pairs.fits) }

        pub past_less : length s - k.next < length s - i
        past_less = omega (arith, pairs.begins, pairs.fits, pairs.next, heads.end_after s k.end)

        pub past_more : Passes s room m n i → (b : Bool) → Differs (slice (i + 3) k.end s) room m n b → b ≡ true → Passes s room m n k.next
        past_more x b t e = passes_more x pairs (t.sure e)

pub ruleset passing = (past_none, past_some, past_room, past_asked, past_few, past_part, past_less, past_more, rules)

-- ---- in a content

-- keys from q to r are none of those sought
pub record Skipped (stored starts : List ℕ) (d stop : ℕ) (room : List ℕ) (m n q r : ℕ) : Type 0 where
  pub keys : Open (all_keys stored starts d stop) r
  pub onward : q ≤ r
  pub pass : (p : ℕ) (t : List ℕ) → Ends t room m n → Comes (all_keys stored starts d stop) (Other (text_at (viewed stored starts d)) p t) q r

pub record SkipAsked (stored starts : List ℕ) (d stop : ℕ) (room : List ℕ) (m n q : ℕ) : Type 0 where
  pub keys : Open (all_keys stored starts d stop) q
  pub some : m ≤ n
  pub held : m ≤ length room

not_other : {text : ℕ → List ℕ} {p q : ℕ} {t : List ℕ} {us : List ℕ} → (t ≡ text q → ⊥) → Other text p t (q ∷ us) → Other text p t us
not_other n (other_here m e) = absurd (n e)
not_other n (other_later x) = x

module _ (stored starts : List ℕ) (d stop : ℕ) (room : List ℕ) (m n q : ℕ) (c : Content stored starts d stop) (h : SkipAsked stored starts d stop room m n q) where
  abbrev D : Road
  D = all_keys stored starts d stop

  pub skip_below : q ≤ stop
  skip_below = walks_le D h.keys.walks

  module _ (place left : ℕ) (z : Nearby stored starts d q stop place left) where
    abbrev s : List ℕ
    s = take (place + left - place) (drop place stored)

    runs : Runs stored starts d q stop place s
    runs = near_runs stored starts d q stop place left z

    pub skip_end_fits : place + left ≤ lent
    skip_end_fits = omega (arith, z.inside, c.few)

    pub skip_inside : place + left ≤ length stored
    skip_inside = z.inside

    pub skip_past : PastAsked s room m n
    skip_past = record { short = runs.short; some = h.some; held = h.held }

    skips : {i : ℕ} → Passes s room m n i → Skipped stored starts d stop room m n q (q + i)
    skips passes_none = subst (Skipped stored starts d stop room m n q) (let e : q ≡ q + 0 = omega arith in e) (record { keys = h.keys; onward = omega arith; pass = λ p t x. comes_first D })
    skips (passes_more {i = i} {e = e} {f = f} x y b) =
        let w = skips x in
        let l : q + i < stop = omega (arith, y.begins, y.fits, runs.below) in
        let g = open_good D (q + i) w.keys l in
        let o = pair_next stored starts d q stop place s runs g y in
        let u = pair_text stored starts d q stop place s runs g y in
        record {
          keys = open_next D (q + i) w.keys l (q + f) (sym o);
          onward = omega arith;
          pass = λ p t j. subst (Comes D (Other (text_at (viewed stored starts d)) p t) q) o (comes_on D (w.pass p t j) l (λ us a y'. not_other (λ k. b.bars t j (k ∙ u)) y') (λ us a y'. other_later y'));
        }

    pub skip_told : (i : ℕ) → Passes s room m n i → Skipped stored starts d stop room m n q (q + i)
    skip_told i x = skips x

    pub skip_fits : (i : ℕ) → Passes s room m n i → Fits w64 (q + i)
    skip_fits i x = omega (arith, walks_le D (skips x).keys.walks, view_less stored starts d, c.few, c.fits)

pub ruleset skipping = (skip_below, skip_end_fits, skip_inside, skip_past, skip_told, skip_fits, rules)
