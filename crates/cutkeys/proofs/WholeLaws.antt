-- Laws of the keys that stand whole, found one behind another, as `search` takes them. Assumes nothing.
use mathlib.Core.Path.{◌≡◌, sym, ap, subst, ◌∙◌}
use mathlib.Core.List.{List}
use Prim.Native.Nat.{ℕ, ◌-◌, ◌≤◌, ◌<◌}
use native.Mathlib.Omega.{arith}
use lib.ListN.{length}
use lib.Seq.{slice}
use mir.Syntax.{w32}
use mir.Val.{Fits}
use borrow.Author.Rules.{rules}
use Rattle.repeats.specs.declared.TooLong.{TooLong}
use Rattle.distinct.specs.Names.{Part}
use Rattle.distinct.specs.Chains.{SitsTold}
use Rattle.distinct.specs.Ranks.{Finds}
use Rattle.distinct.specs.Roads.{Road, comes_first}
use Rattle.distinct.specs.Window.{Rooms}
use Rattle.distinct.specs.Windows.{Open, open_next, open_less, Room, Going, Gathering, gather_first, Windowed, onward_less}
use Rattle.distinct.specs.Entering.{Entering, enter_first}
use Rattle.views.specs.Views.{viewed}
use Rattle.std.specs.Prelude.{Option, Some, Result}
use Rattle.cutkeys.specs.declared.keys.Found.{Found}
use Rattle.cutkeys.specs.Places.{text_at, beyond}
use Rattle.cutkeys.specs.Kept.{first_of, kept_open, whole_open, first_fixed}
use Rattle.cutkeys.specs.Keys.{all_keys}
use Rattle.cutkeys.specs.Whole.{whole_at, whole_keys}
use Rattle.cutkeys.specs.Runs.{Run, run_none}
use Rattle.cutkeys.specs.Found.{Seen', place_in, Seeks}

module _ (stored starts : List ℕ) (d stop : ℕ) where
  abbrev D : Road
  D = whole_keys stored starts d stop

  -- ---- the first key

  module _ (from : ℕ) (o : Open D from) where
    pub start_open : Open (all_keys stored starts d stop) from
    start_open = whole_open (all_keys stored starts d stop) (whole_at stored starts d) from o

    module _ (k : Option Found) (s : Seeks stored starts d stop from k) where
      start_is : from ≡ place_in stop k
      start_is = first_fixed (all_keys stored starts d stop) (whole_at stored starts d) from o ∙ sym s.is

      pub start_going : (P : List ℕ → Type 0) → Going D P from (place_in stop k)
      start_going P = subst (Going D P from) start_is (record { keys = o; comes = comes_first D })

      pub start_gathering : (froms tos : List ℕ) → Room froms tos → Gathering D stored froms tos from 0 (place_in stop k)
      start_gathering froms tos r = subst (Gathering D stored froms tos from 0) start_is (gather_first D stored from froms tos o r)

      pub start_entering : (froms tos heads links : List ℕ) → Rooms froms tos heads links → Entering D stored froms tos heads links from 0 (place_in stop k)
      start_entering froms tos heads links r = subst (Entering D stored froms tos heads links from 0) start_is (enter_first D stored froms tos heads links from o r)

  -- ---- a key that was found

  pub found_run : (k : Found) → Seen' stored starts d stop k → Run stored starts d k.next stop k.reach.place k.reach.left
  found_run k s = s.run

  pub found_low : (k : Found) → Seen' stored starts d stop k → k.place < stop
  found_low k s = s.low

  module _ (k : Found) (s : Seen' stored starts d stop k) where
    pub found_part : Part stored k.text.from k.text.to
    found_part = s.there.part

    pub found_from : Fits w32 k.text.from
    found_from = let p = found_part in omega (arith, p.order, s.there.few)

    pub found_to : Fits w32 k.text.to
    found_to = omega (arith, s.there.few)

    pub found_text : text_at (viewed stored starts d) k.place ≡ slice k.text.from k.text.to stored
    found_text = s.there.text

    pub found_open : Open (all_keys stored starts d stop) k.next
    found_open = open_next (all_keys stored starts d stop) k.place s.keys s.low k.next s.there.next

    module _ (q : Option Found) (t : Seeks stored starts d stop k.next q) where
      pub found_next : place_in stop q ≡ first_of (all_keys stored starts d stop) (whole_at stored starts d) (beyond (viewed stored starts d) k.place)
      found_next = t.is ∙ ap (first_of (all_keys stored starts d stop) (whole_at stored starts d)) s.there.next

      pub found_less : Open D k.place → stop - place_in stop q < stop - k.place
      found_less o = open_less D k.place o s.low (place_in stop q) found_next

    -- sought in a window
    module _ (text froms tos : List ℕ) (n : ℕ) where
      pub found_sits : (r : Result (Option ℕ) TooLong) → SitsTold text froms tos n (slice k.text.from k.text.to stored) r → SitsTold text froms tos n (text_at (viewed stored starts d) k.place) r
      found_sits r t = rw found_text t

      pub found_finds : (order : List ℕ) (r : Result ℕ ℕ) → Finds text froms tos order n (slice k.text.from k.text.to stored) r → Finds text froms tos order n (text_at (viewed stored starts d) k.place) r
      found_finds order r t = rw found_text t

pub ruleset finding = (run_none, found_run, found_low, start_open, start_going, start_gathering, start_entering, found_part, found_from, found_to, found_text, found_open, found_next, found_less, found_sits, found_finds, rules)

-- ---- all windows

pub windows_first : (stored starts : List ℕ) (d stop : ℕ) → Open (all_keys stored starts d stop) 0 → (p : ℕ) → p ≡ first_of (all_keys stored starts d stop) (whole_at stored starts d) 0 → (P : List ℕ → Type 0)
    → Going (whole_keys stored starts d stop) P (first_of (all_keys stored starts d stop) (whole_at stored starts d) 0) p
windows_first stored starts d stop o p e P =
    let D = all_keys stored starts d stop in
    let f = whole_at stored starts d in
    subst (Going (whole_keys stored starts d stop) P (first_of D f 0)) (sym e) (record { keys = kept_open D f 0 o; comes = comes_first (whole_keys stored starts d stop) })

pub window_falls : (stored starts : List ℕ) (d stop r : ℕ) (w : Option ℕ) → Windowed (whole_keys stored starts d stop) r w → (q : ℕ) → w ≡ Some q → r < stop → stop - q < stop - r
window_falls stored starts d stop r w t q e l = onward_less (whole_keys stored starts d stop) r w t q e l

-- ---- rooms that keys have entered are rooms for them again

module _ (froms tos heads links froms' tos' links' : List ℕ) (r : Rooms froms tos heads links) (f : length froms' ≡ length froms) (t : length tos' ≡ length tos) (l : length links' ≡ length links) where
  pub room_again : Room froms' tos'
  room_again = record { some = omega (arith, r.some); few = omega (arith, r.few); even = omega (arith, r.even) }

  pub wide_again : length froms' ≤ length links'
  wide_again = omega (arith, r.wide)
