-- ALONG A ROAD, pair by pair or one window after another: what is asked of the functions that walk it, what they tell, and the laws that `search` takes. Assumes nothing.
use Rattle.std.specs.Prelude.{◌≡◌, refl, List, Bool, true, false, ℕ, ◌+◌, ◌-◌, ◌≤◌, ◌<◌, length, set, Option, Some, None, is_some, Result, Ok, Err, is_ok, IsErr}
use Rattle.std.proofs.Common.{sym, ap, subst, arith, length-set, rules}
use Rattle.std.proofs.Math.Decide.{dec_lt}
use Rattle.std.proofs.Math.Seq.{slice}
use Rattle.exact.specs.Tells.{Tells, tells_yes, tells_no}
use Rattle.repeats.specs.declared.TooLong.{TooLong}
use Rattle.distinct.specs.declared.Taken.{Taken}
use Rattle.distinct.specs.Names.{Part}
use Rattle.distinct.specs.Chains.{some_of, none_of, SitsTold, Starting, linked_in}
use Rattle.distinct.specs.Ranks.{Finds, InOrder, ranged_in}
use Rattle.distinct.specs.Roads.{Road, Walks, walks_next, Among, Apart, Comes, comes_first, comes_both, AmongTold, ApartTold, seek_met, seek_on, seek_over, pass_met, pass_on, pass_over}
use Rattle.distinct.specs.Window.{Touched, TouchedLooked, TouchedTold, ClashTold, Leads, leads_none, leads_more, leads_clash, leads_comes, trail_none, trail_over, trail_long, trail_met, trail_past, trail_there, trail_gap, clash_long, clash_met, clash_past, clash_yes, clash_no, looked_yes, looked_no, Rooms, rooms_starting}

-- ---- keys stand from r on

pub record Open (D : Road) (r : ℕ) : Type 0 where
  pub rows : List ℕ
  pub walks : Walks D r rows

module _ (D : Road) (r : ℕ) (k : Open D r) (l : r < D.stop) where
  pub open_good : D.Good r
  open_good = (walks_next D k.walks l).2

  module _ (q : ℕ) (e : q ≡ D.next r) where
    pub open_next : Open D q
    open_next = let z = walks_next D k.walks l in subst (Open D) (sym e) (record { rows = z.0; walks = z.3 })

    pub open_less : D.stop - q < D.stop - r
    open_less = let g = open_good in omega (arith, D.onward r g, D.below r g)

-- P of all is P of those from r on, where keys stand
pub record Going (D : Road) (P : List ℕ → Type 0) (from r : ℕ) : Type 0 where
  pub keys : Open D r
  pub comes : Comes D P from r

module _ (D : Road) (P : List ℕ → Type 0) (from : ℕ) where
  pub going_first : Open D from → Going D P from from
  going_first k = record { keys = k; comes = comes_first D }

  module _ (r : ℕ) (w : Going D P from r) where
    pub going_open : Open D r
    going_open = w.keys

    going_on : r < D.stop → (q : ℕ) → q ≡ D.next r → Comes D P from (D.next r) → Going D P from q
    going_on l q h c = record { keys = open_next D r w.keys l q h; comes = subst (Comes D P from) (sym h) c }

pub ruleset walking = (going_first, going_open, open_next, rules)

-- ---- a text sought among them

module _ (D : Road) (s : List ℕ) (from r : ℕ) (w : Going D (Among D.text s) from r) where
  pub sought_over : D.stop ≤ r → AmongTold D s from false
  sought_over l = seek_over D s from r w.comes l

  module _ (l : r < D.stop) (b : Bool) (t : Tells (s ≡ D.text r) b) where
    pub sought_met : b ≡ true → AmongTold D s from true
    sought_met e = seek_met D s from r w.comes l (tells_yes b e t)

    pub sought_on : b ≡ false → (q : ℕ) → q ≡ D.next r → Going D (Among D.text s) from q
    sought_on e q h = going_on D (Among D.text s) from r w l q h (seek_on D s from r w.comes l (tells_no b e t))

pub ruleset seeking = (sought_over, sought_met, sought_on, walking)

-- ---- each sought among those behind it

module _ (D : Road) (from r : ℕ) (w : Going D (Apart D.text) from r) where
  pub sifted_over : D.stop ≤ r → ApartTold D from true
  sifted_over l = pass_over D from r w.comes l

  module _ (l : r < D.stop) (q : ℕ) (h : q ≡ D.next r) (b : Bool) (t : AmongTold D (D.text r) q b) where
    told : AmongTold D (D.text r) (D.next r) b
    told = subst (λ (i : ℕ). AmongTold D (D.text r) i b) h t

    pub sifted_met : b ≡ true → ApartTold D from false
    sifted_met e = pass_met D from r w.comes l (subst (AmongTold D (D.text r) (D.next r)) e told)

    pub sifted_on : b ≡ false → Going D (Apart D.text) from q
    sifted_on e = going_on D (Apart D.text) from r w l q h (pass_on D from r w.comes l (subst (AmongTold D (D.text r) (D.next r)) e told))

pub ruleset sifting = (sifted_over, sifted_met, sifted_on, walking)

-- ---- a window is filled

-- two rooms for places
pub record Room (froms tos : List ℕ) : Type 0 where
  pub some : 0 < length froms
  pub few : length froms ≤ 8192
  pub even : length tos ≡ length froms

-- they have the first keys, one at least where there is one
pub record Gathered (D : Road) (text froms tos : List ℕ) (from : ℕ) (w : Taken) : Type 0 where
  pub leads : Leads D text froms tos from w.n w.next
  pub keys : Open D w.next
  pub onward : from < D.stop → from < w.next

-- n keys are gathered, and the walk has come to r
pub record Gathering (D : Road) (text froms tos : List ℕ) (from n r : ℕ) : Type 0 where
  pub leads : Leads D text froms tos from n r
  pub keys : Open D r
  pub room : Room froms tos
  pub onward : 0 < n → from < r
  pub start : n ≤ 0 → r ≡ from

module _ (D : Road) (text : List ℕ) (from : ℕ) where
  pub gather_first : (froms tos : List ℕ) → Open D from → Room froms tos → Gathering D text froms tos from 0 from
  gather_first froms tos k r = record { leads = leads_none D text froms tos from; keys = k; room = r; onward = λ l. absurd (omega arith); start = λ l. refl }

  module _ (froms tos : List ℕ) (n r : ℕ) (x : Gathering D text froms tos from n r) where
    pub gather_full : n ≡ length froms → Gathered D text froms tos from (record { n = n; next = r })
    gather_full e = record { leads = x.leads; keys = x.keys; onward = λ l. x.onward (omega (arith, x.room.some)) }

    pub gather_over : D.stop ≤ r → Gathered D text froms tos from (record { n = n; next = r })
    gather_over l = record { leads = x.leads; keys = x.keys; onward = λ h. omega arith }

    pub gather_open : Open D r
    gather_open = x.keys

    pub gather_few : n ≤ 8192
    gather_few = x.leads.held.few

    module _ (f : n ≡ length froms → ⊥) where
      pub gather_room : n < length froms
      gather_room = omega (arith, x.leads.held.from_room)

      pub gather_even : n < length tos
      gather_even = omega (arith, x.leads.held.from_room, x.room.even)

      pub gather_more : r < D.stop → (a e : ℕ) → Part text a e → D.text r ≡ slice a e text → (q : ℕ) → q ≡ D.next r → Gathering D text (set froms n a) (set tos n e) from (n + 1) q
      gather_more l a e p z q h =
          record {
            leads = leads_more D text froms tos from n r x.leads l gather_room gather_even (let y = gather_room in omega (arith, x.room.few)) a e p z q h;
            keys = open_next D r x.keys l q h;
            room = record { some = simp length-set x.room.some; few = simp length-set x.room.few; even = simp length-set x.room.even };
            onward = λ y. by (dec_lt 0 n);
            start = λ y. absurd (omega arith);
          }
        where
          ahead : r < q
          ahead = let g = D.onward r (open_good D r x.keys l) in omega arith

          by : Dec (0 < n) → from < q
          by (yes y) = let u = x.onward y in let g = ahead in omega arith
          by (no y) = let u = x.start (omega arith) in let g = ahead in omega arith

pub ruleset gathering = (gather_first, gather_full, gather_over, gather_open, gather_room, gather_even, gather_few, gather_more, rules)

-- ---- the keys behind the window, each sought in it

ok_of : (s : Result ℕ ℕ) (b : Bool) → b ≡ is_ok s → b ≡ true → (k : ℕ) × (s ≡ Ok k)
ok_of (Ok k) b e f = (k, refl)
ok_of (Err p) b e f = absurd (cc)

err_of : (s : Result ℕ ℕ) (b : Bool) → b ≡ is_ok s → b ≡ false → (p : ℕ) × (s ≡ Err p)
err_of (Ok k) b e f = absurd (cc)
err_of (Err p) b e f = (p, refl)

module _ (D : Road) (text froms tos : List ℕ) (n from r : ℕ) (x : Going D (Touched D text froms tos n) from r) where
  pub trailed_none : D.stop ≤ r → TouchedTold D text froms tos n from false
  trailed_none l = trail_none D text froms tos n from r x.comes l

  pub trailed_over : D.stop ≤ r → TouchedLooked D text froms tos n from (Ok false)
  trailed_over l = trail_over D text froms tos n from r x.comes l

  pub trailed_long : (s : Result Bool TooLong) → IsErr s → TouchedLooked D text froms tos n from s
  trailed_long (Err e) y = trail_long D text froms tos n from r x.comes e
  trailed_long (Ok b) y = absurd (cc)

  module _ (l : r < D.stop) where
    module _ (o : Option ℕ) (t : SitsTold text froms tos n (D.text r) (Ok o)) (b : Bool) (g : b ≡ is_some o) where
      pub trailed_met : b ≡ true → TouchedLooked D text froms tos n from (Ok true)
      trailed_met e = let z = some_of o b g e in trail_met D text froms tos n from r x.comes l (Ok o) t z.0 (ap Ok z.1)

      pub trailed_past : b ≡ false → (q : ℕ) → q ≡ D.next r → Going D (Touched D text froms tos n) from q
      trailed_past e q h = record { keys = open_next D r x.keys l q h; comes = trail_past D text froms tos n from r x.comes l (Ok o) t (ap Ok (none_of o b g e)) q h }

    module _ (order : List ℕ) (s : Result ℕ ℕ) (t : Finds text froms tos order n (D.text r) s) (b : Bool) (g : b ≡ is_ok s) where
      pub trailed_there : b ≡ true → TouchedTold D text froms tos n from true
      trailed_there e = let z = ok_of s b g e in trail_there D text froms tos n from r x.comes l order s t z.0 z.1

      pub trailed_gap : InOrder text froms tos order n → b ≡ false → (q : ℕ) → q ≡ D.next r → Going D (Touched D text froms tos n) from q
      trailed_gap y e q h = let z = err_of s b g e in record { keys = open_next D r x.keys l q h; comes = trail_gap D text froms tos n from r x.comes l order s t y z.0 z.1 q h }

pub ruleset trailing = (trailed_none, trailed_over, trailed_long, trailed_met, trailed_past, trailed_there, trailed_gap, walking)

-- ---- what clashes

-- n keys are in the window, none in the chains, and others from `next` on
pub record Filled (D : Road) (text froms tos heads links : List ℕ) (n next : ℕ) : Type 0 where
  pub starting : Starting text froms tos heads links n
  pub keys : Open D next

pub ruleset chainwise = (clash_long, clash_met, clash_past, linked_in, rules)

pub ruleset rankwise = (clash_yes, clash_no, ranged_in, rules)

-- for chains that were too long, the order
pub filled_ranks : (D : Road) (text froms tos heads links : List ℕ) (n next : ℕ) → Filled D text froms tos heads links n next → (links' : List ℕ) → length links' ≡ length links → n ≤ length links'
filled_ranks D text froms tos heads links n next f links' e = omega (arith, f.starting.room)

pub ruleset clashing = (looked_yes, looked_no, filled_ranks, rules)

-- ---- a window

-- the walk goes on from q: no two keys have one text exactly if none from q on have
pub record Goes (D : Road) (from q : ℕ) : Type 0 where
  pub onward : from < q
  pub going : Going D (Apart D.text) from q

abbrev pub Windowed : Road → ℕ → Option ℕ → Type 0
Windowed D from None = ApartTold D from false
Windowed D from (Some q) = Goes D from q

module _ (froms tos heads links : List ℕ) (r : Rooms froms tos heads links) where
  pub window_room : Room froms tos
  window_room = record { some = r.some; few = r.few; even = r.even }

  pub window_filled : (D : Road) (text froms' tos' : List ℕ) (from : ℕ) (w : Taken) → Gathered D text froms' tos' from w → length froms' ≡ length froms → Filled D text froms' tos' heads links w.n w.next
  window_filled D text froms' tos' from w g e = record { starting = rooms_starting text froms tos heads links froms' tos' w.n r e g.leads.held; keys = g.keys }

module _ (D : Road) (text froms tos : List ℕ) (from : ℕ) (w : Taken) (g : Gathered D text froms tos from w) (b : Bool) (t : ClashTold D text froms tos w.n w.next b) where
  pub window_yes : b ≡ true → Windowed D from None
  window_yes e = leads_clash D text froms tos from w.n w.next g.leads (λ us u. tells_yes b e (t us u))

  pub window_no : from < D.stop → b ≡ false → Windowed D from (Some w.next)
  window_no l e =
      record { onward = g.onward l; going = record { keys = g.keys; comes = leads_comes D text froms tos from w.n w.next g.leads (λ us u. tells_no b e (t us u)) } }

pub ruleset windowing = (window_room, window_filled, window_yes, window_no, rules)

-- ---- all windows

module _ (D : Road) (r : ℕ) (w : Option ℕ) (t : Windowed D r w) (q : ℕ) (e : w ≡ Some q) where
  next : Goes D r q
  next = rw e at t

  pub onward_less : r < D.stop → D.stop - q < D.stop - r
  onward_less l = omega (arith, next.onward)

  pub onward_more : (from : ℕ) → Going D (Apart D.text) from r → Going D (Apart D.text) from q
  onward_more from x = record { keys = next.going.keys; comes = comes_both D x.comes next.going.comes }

pub onward_twice : (D : Road) (from r : ℕ) → Going D (Apart D.text) from r → (w : Option ℕ) → Windowed D r w → w ≡ None → ApartTold D from false
onward_twice D from r x w t e rs v y = let z : ApartTold D r false = rw e at t in z (x.comes.to rs v) (x.comes.walks rs v) (x.comes.there rs v y)

pub ruleset onwards = (sifted_over, onward_twice, onward_more, onward_less, walking)
