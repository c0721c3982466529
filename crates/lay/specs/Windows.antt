-- THE KEYS OF AN OBJECT SOUGHT IN A WINDOW of another's: what is asked of the functions that do it, what they tell, and the laws that `search` takes. Assumes nothing.
use Rattle.std.proofs.Math.Path.{◌≡◌}
use Rattle.std.specs.Prelude.{refl, List, Bool, true, false, ℕ, ◌+◌, ◌-◌, ◌*◌, ◌≤◌, ◌<◌, min, length, get_or, set}
use Rattle.std.proofs.Common.{sym, ap, subst, ◌∙◌, length-set, rules}
use native.Mathlib.Omega.{arith}
use Rattle.std.specs.Prelude.{Option, Some, None, Result, Ok, Err}
use Rattle.std.specs.Result.{result_ok}
use Rattle.exact.specs.Class.{clash}
use Rattle.repeats.specs.declared.TooLong.{TooLong}
use Rattle.language.specs.Tree.{Forest, width}
use Rattle.distinct.specs.Names.{spelt, Held, Sits, Twice}
use Rattle.distinct.specs.Chains.{Told, told_low, told_at, told_none, SitsTold, InChains, Starting, Linked, linked_in}
use Rattle.distinct.specs.Ranks.{Finds, InOrder, Ranged, ranged_twice, ranged_in, stands_low, stands_same, gap_none}
use Rattle.distinct.specs.Window.{Rooms, rooms_starting}
use Rattle.sound.specs.Keys.{text_at}
use Rattle.sound.specs.Pairwise.{Named}
use Rattle.sound.specs.Standing.{size_some, next_word}
use Rattle.overlay.specs.Overlay.{pairs_of, pairs}
use Rattle.lay.specs.Targets.{ceiling}
use Rattle.lay.specs.Matching.{Stand, Pair, stand_first, stand_none, Mark, Seek, Match, match_word, match_seek, match_mark, Matched, row_of}
use Rattle.lay.specs.Gathering.{Pairing, match_pairing, Space, Zeros, Gathered}
use Rattle.lay.specs.Probing.{Halves, halves_start, halves_end, halves_past, halves_met}

-- ---- one key sought in the window

-- its n keys stand in order if they are ranked, else in chains
pub record Ready (text froms tos heads links : List ℕ) (n : ℕ) (ranked : Bool) : Type 0 where
  pub order : ranked ≡ true → InOrder text froms tos links n
  pub chains : ranked ≡ false → InChains text froms tos heads links n

-- which one has the text s; in order no look is too long
pub record Sighted (text froms tos : List ℕ) (n : ℕ) (s : List ℕ) (ranked : Bool) (r : Result (Option ℕ) TooLong) : Type 0 where
  pub told : SitsTold text froms tos n s r
  pub short : ranked ≡ true → (e : TooLong) → r ≡ Err e → ⊥

module _ (text froms tos heads links : List ℕ) (n : ℕ) (ranked : Bool) (w : Ready text froms tos heads links n ranked) where
  pub ready_order : ranked ≡ true → InOrder text froms tos links n
  ready_order e = w.order e

  pub ready_chains : ranked ≡ false → InChains text froms tos heads links n
  ready_chains e = w.chains e

  module _ (s : List ℕ) where
    pub sight_chains : ranked ≡ false → (r : Result (Option ℕ) TooLong) → SitsTold text froms tos n s r → Sighted text froms tos n s ranked r
    sight_chains e r t = record { told = t; short = λ f x g. clash f e }

    module _ (e : ranked ≡ true) (d : Result ℕ ℕ) (t : Finds text froms tos links n s d) where
      pub sight_order : (o : Option ℕ) → o ≡ result_ok d → Sighted text froms tos n s ranked (Ok o)
      unfolding Told
      sight_order o f = rw f (by d t)
        where
          by : (d : Result ℕ ℕ) → Finds text froms tos links n s d → Sighted text froms tos n s ranked (Ok (result_ok d))
          by (Ok k) t = record { told = (stands_low text froms tos links n s (Ok k) t k refl, stands_same text froms tos links n s (Ok k) t k refl); short = λ g x h. let z : ◌≡◌ {A = ℕ} 0 1 = cc in omega arith }
          by (Err p) t = record { told = gap_none text froms tos links n s (Err p) t (w.order e).ranked p refl; short = λ g x h. let z : ◌≡◌ {A = ℕ} 0 1 = cc in omega arith }

pub ruleset sighting = (ready_order, ready_chains, sight_chains, sight_order, rules)

-- ---- each key of the other object sought

-- each of the n keys has its match in the marks
pub record Marked (text froms tos : List ℕ) (n : ℕ) (other words : List ℕ) (from stop : ℕ) (marks : List ℕ) : Type 0 where
  pub each : (h : Seek other words from stop) (k : ℕ) → k < n → Mark other words (pairs_of h.trees) (spelt text froms tos k) (row_of (get_or marks k 0))

pub record Probe (text froms tos heads links : List ℕ) (n : ℕ) (other words : List ℕ) (from stop : ℕ) (marks : List ℕ) (ranked : Bool) : Type 0 where
  pub ready : Ready text froms tos heads links n ranked
  pub once : Twice text froms tos n → ⊥
  pub room : n ≤ length marks
  pub seek : Seek other words from stop
  pub zeros : Zeros marks n

pub record Probed (text froms tos : List ℕ) (n : ℕ) (other words : List ℕ) (from stop : ℕ) (marks : List ℕ) (ranked b : Bool) : Type 0 where
  pub marked : b ≡ true → Marked text froms tos n other words from stop marks
  pub short : ranked ≡ true → b ≡ true

-- the keys from r on are still to be sought
pub record Way (text froms tos : List ℕ) (n : ℕ) (other words : List ℕ) (from stop : ℕ) (h : Seek other words from stop) (marks : List ℕ) (r : ℕ) : Type 0 where
  pub left : Forest
  pub stands : Stand other words h.deep r stop left
  pub halves : Halves other words (pairs_of h.trees) text froms tos n marks (pairs_of left)

pub record Probing (text froms tos : List ℕ) (n : ℕ) (other words : List ℕ) (from stop : ℕ) (marks : List ℕ) (r : ℕ) : Type 0 where
  pub way : (h : Seek other words from stop) → Way text froms tos n other words from stop h marks r
  pub room : n ≤ length marks
  pub ahead : from ≤ r

module _ (text froms tos heads links : List ℕ) (n : ℕ) (other words : List ℕ) (from stop : ℕ) (first : List ℕ) (ranked : Bool)
    (w : Probe text froms tos heads links n other words from stop first ranked) where
  pub probe_first : Probing text froms tos n other words from stop first from
  probe_first =
      record {
        way = λ h. record { left = h.trees; stands = h.stands; halves = halves_start other words (pairs_of h.trees) text froms tos n first w.zeros.zero };
        room = w.room;
        ahead = omega arith;
      }

  pub probe_ready : Ready text froms tos heads links n ranked
  probe_ready = w.ready

  module _ (marks : List ℕ) (r : ℕ) (x : Probing text froms tos n other words from stop marks r) where
    pub probe_over : stop ≤ r → Probed text froms tos n other words from stop marks ranked true
    probe_over l = record { marked = λ e. record { each = λ h. done h (x.way h) }; short = λ e. refl }
      where
        done : (h : Seek other words from stop) → Way text froms tos n other words from stop h marks r → (k : ℕ) → k < n → Mark other words (pairs_of h.trees) (spelt text froms tos k) (row_of (get_or marks k 0))
        done h y = halves_end other words (pairs_of h.trees) text froms tos n marks (subst (Halves other words (pairs_of h.trees) text froms tos n marks) (stand_none other words y.stands l) y.halves)

    module _ (l : r < stop) where
      one : (h : Seek other words from stop) → Pair other words h.deep r stop (x.way h).left
      one h = stand_first other words (x.way h).stands l

      pub probe_named : Named other words r
      probe_named = (one w.seek).named

      pub probe_fits : r + 1 < ceiling
      probe_fits = omega (arith, w.seek.few)

      pub probe_value : (j : ℕ) → j ≡ 6 → width * (r + 1) + j < length other
      probe_value j e = let p = one w.seek in rw e (omega (arith, p.val_here.fits, size_some p.val))

      module _ (q : ℕ) (e : q ≡ get_or other (width * (r + 1) + 6) 0) where
        pub probe_less : stop - q < stop - r
        probe_less = let p = one w.seek in omega (arith, p.onward, p.within)

        beyond : from ≤ q
        beyond = let p = one w.seek in omega (arith, x.ahead, p.onward)

      module _ (s : Result (Option ℕ) TooLong) (t : Sighted text froms tos n (text_at other words r) ranked s) where
        abbrev P : ℕ → Type 0
        P k = text_at other words r ≡ spelt text froms tos k

        abbrev Q : Type 0
        Q = Sits text froms tos (text_at other words r) n

        pub probe_long : (x : TooLong) → s ≡ Err x → Probed text froms tos n other words from stop marks ranked false
        probe_long x e = record { marked = λ f. absurd (clash f refl); short = λ f. absurd (t.short f x e) }

        pub probe_mark : (k : ℕ) → s ≡ Ok (Some k) → k < length marks
        probe_mark k e = let z = told_low P n Q s t.told k e in omega (arith, x.room)

        pub probe_met : (k : ℕ) → s ≡ Ok (Some k) → (q : ℕ) → q ≡ get_or other (width * (r + 1) + 6) 0 → Probing text froms tos n other words from stop (set marks k r) q
        probe_met k e q f = record { way = λ h. on h (one h); room = omega (arith, x.room, length-set marks k r); ahead = beyond q f }
          where
            on : (h : Seek other words from stop) → Pair other words h.deep r stop (x.way h).left → Way text froms tos n other words from stop h (set marks k r) q
            on h p =
                record {
                  left = p.rest;
                  stands = subst (λ (i : ℕ). Stand other words h.deep i stop p.rest) (sym f) p.behind;
                  halves =
                      let v = next_word other words p.val_here refl in
                      halves_met other words (pairs_of h.trees) text froms tos n marks p.key p.val (pairs_of p.rest)
                      (subst (Halves other words (pairs_of h.trees) text froms tos n marks) p.is (x.way h).halves) k r (told_low P n Q s t.told k e) x.room
                      (sym p.text_is ∙ told_at P n Q s t.told k e) w.once (omega (arith, x.ahead, h.some)) (omega (arith, p.within, h.few)) p.val_here p.apart;
                }

        pub probe_past : s ≡ Ok None → (q : ℕ) → q ≡ get_or other (width * (r + 1) + 6) 0 → Probing text froms tos n other words from stop marks q
        probe_past e q f = record { way = λ h. on h (one h); room = x.room; ahead = beyond q f }
          where
            on : (h : Seek other words from stop) → Pair other words h.deep r stop (x.way h).left → Way text froms tos n other words from stop h marks q
            on h p =
                record {
                  left = p.rest;
                  stands = subst (λ (i : ℕ). Stand other words h.deep i stop p.rest) (sym f) p.behind;
                  halves =
                      halves_past other words (pairs_of h.trees) text froms tos n marks p.key p.val (pairs_of p.rest)
                      (subst (Halves other words (pairs_of h.trees) text froms tos n marks) p.is (x.way h).halves)
                      (λ y. told_none P n Q s t.told e (subst (λ (u : List ℕ). Sits text froms tos u n) (sym p.text_is) y));
                }

pub ruleset probing = (probe_first, probe_ready, probe_over, probe_named, probe_fits, probe_value, probe_less, probe_long, probe_mark, probe_met, probe_past, rules)

-- ---- the window's keys in chains, and in order

pub record Window (text froms tos heads links : List ℕ) (n : ℕ) (other words : List ℕ) (from stop : ℕ) (marks : List ℕ) : Type 0 where
  pub starting : Starting text froms tos heads links n
  pub once : Twice text froms tos n → ⊥
  pub room : n ≤ length marks
  pub seek : Seek other words from stop
  pub zeros : Zeros marks n

-- whether the marks are those of the keys; if not they may be any
pub record Tried (text froms tos : List ℕ) (n : ℕ) (other words : List ℕ) (from stop : ℕ) (marks : List ℕ) (b : Bool) : Type 0 where
  pub marked : b ≡ true → Marked text froms tos n other words from stop marks

module _ (text froms tos heads links : List ℕ) (n : ℕ) (other words : List ℕ) (from stop : ℕ) (marks : List ℕ) (w : Window text froms tos heads links n other words from stop marks) where
  pub chain_start : Starting text froms tos heads links n
  chain_start = w.starting

  pub chain_probe : (heads' links' : List ℕ) (v : Result Bool TooLong) → Linked text froms tos heads' links' n v → v ≡ Ok false → length links' ≡ length links
      → Probe text froms tos heads' links' n other words from stop marks false
  chain_probe heads' links' v t e f =
      record {
        ready = record { order = λ g. absurd (clash g refl); chains = λ g. linked_in text froms tos heads' links' n v t heads links w.starting f e };
        once = w.once;
        room = w.room;
        seek = w.seek;
        zeros = w.zeros;
      }

pub tried_probed : (text froms tos : List ℕ) (n : ℕ) (other words : List ℕ) (from stop : ℕ) (marks : List ℕ) (b : Bool) → Probed text froms tos n other words from stop marks false b
    → Tried text froms tos n other words from stop marks b
tried_probed text froms tos n other words from stop marks b t = record { marked = t.marked }

pub tried_none : (text froms tos : List ℕ) (n : ℕ) (other words : List ℕ) (from stop : ℕ) (marks : List ℕ) → Tried text froms tos n other words from stop marks false
tried_none text froms tos n other words from stop marks = record { marked = λ e. absurd (clash e refl) }

pub ruleset chainwise = (chain_start, chain_probe, tried_probed, tried_none, rules)

pub record Ranking (text froms tos order : List ℕ) (n : ℕ) (other words : List ℕ) (from stop : ℕ) (marks : List ℕ) : Type 0 where
  pub held : Held text froms tos n
  pub once : Twice text froms tos n → ⊥
  pub order_room : n ≤ length order
  pub room : n ≤ length marks
  pub seek : Seek other words from stop

module _ (text froms tos order : List ℕ) (n : ℕ) (other words : List ℕ) (from stop : ℕ) (marks : List ℕ) (w : Ranking text froms tos order n other words from stop marks) where
  in_order : (order' : List ℕ) (b : Bool) → Ranged text froms tos order' n b → length order' ≡ length order → InOrder text froms tos order' n
  in_order order' true t f = absurd (w.once (ranged_twice text froms tos order' n true t refl))
  in_order order' false t f = ranged_in text froms tos order' n false t order w.held w.order_room f refl

  pub rank_room : n ≤ length marks
  rank_room = w.room

  pub rank_probe : (heads order' : List ℕ) (b : Bool) → Ranged text froms tos order' n b → length order' ≡ length order → (marks' : List ℕ) → length marks' ≡ length marks → Zeros marks' n
      → Probe text froms tos heads order' n other words from stop marks' true
  rank_probe heads order' b t f marks' g z =
      record {
        ready = record { order = λ e. in_order order' b t f; chains = λ e. absurd (clash refl e) };
        once = w.once;
        room = omega (arith, w.room);
        seek = w.seek;
        zeros = z;
      }

pub rank_marked : (text froms tos : List ℕ) (n : ℕ) (other words : List ℕ) (from stop : ℕ) (marks : List ℕ) (b : Bool) → Probed text froms tos n other words from stop marks true b
    → Marked text froms tos n other words from stop marks
rank_marked text froms tos n other words from stop marks b t = t.marked (t.short refl)

pub ruleset rankwise = (rank_room, rank_probe, rank_marked, rules)

-- in chains, or where one is too long in order
module _ (text froms tos heads links : List ℕ) (n : ℕ) (other words : List ℕ) (from stop : ℕ) (marks : List ℕ) (w : Window text froms tos heads links n other words from stop marks) where
  pub both_ranking : (links' : List ℕ) → length links' ≡ length links → (marks' : List ℕ) → length marks' ≡ length marks → Ranking text froms tos links' n other words from stop marks'
  both_ranking links' e marks' f =
      record { held = w.starting.held; once = w.once; order_room = omega (arith, w.starting.room); room = omega (arith, w.room); seek = w.seek }

pub both_tried : (text froms tos : List ℕ) (n : ℕ) (other words : List ℕ) (from stop : ℕ) (marks : List ℕ) (b : Bool) → Tried text froms tos n other words from stop marks b → b ≡ true
    → Marked text froms tos n other words from stop marks
both_tried text froms tos n other words from stop marks b t e = t.marked e

pub ruleset bothwise = (both_ranking, both_tried, rules)

-- ---- the whole window

module _ (table text : List ℕ) (q end : ℕ) (other words : List ℕ) (s : ℕ) (h : Match table text q end other words s) where
  pub window_word : (j : ℕ) → j ≡ 6 → width * s + j < length other
  window_word j e = rw e (match_word table text q end other words s h)

  pub window_pairing : Pairing table text q end
  window_pairing = match_pairing h

  pub window_next : s + 1 < ceiling
  window_next = let o = h.object in omega (arith, next_word other words o.here refl, size_some o.tree, h.few_others)

  module _ (marks : List ℕ) (most : ℕ) (o : 0 < most) (f : most ≤ length marks) (froms tos heads links : List ℕ) (r : Rooms froms tos heads links) where
    pub window_space : (m : ℕ) → m ≡ min most (length froms) → Space froms tos marks m
    window_space m e =
        record { some = omega (arith, r.some); few = omega (arith, r.few); from_room = omega arith; to_room = omega (arith, r.even); mark_room = omega arith }

    -- n keys were gathered
    module _ (m : ℕ) (e : m ≡ min most (length froms)) (froms' tos' marks' : List ℕ) (n : ℕ) (g : Gathered table text q end froms' tos' marks' m n) where
      module _ (a : length froms' ≡ length froms) (b : length marks' ≡ length marks) (stop : ℕ) (i : stop ≡ get_or other (width * s + 6) 0) where
        pub window_chains : Window text froms' tos' heads links n other words (s + 1) stop marks'
        window_chains =
            let u = g.full (match_pairing h) in
            record {
              starting = rooms_starting text froms tos heads links froms' tos' n r a u.held;
              once = u.once;
              room = omega (arith, g.low);
              seek = match_seek table text q end other words s h stop i;
              zeros = g.zeros;
            }

      pub window_done : (stop : ℕ) → stop ≡ get_or other (width * s + 6) 0 → (marks'' : List ℕ) → Marked text froms' tos' n other words (s + 1) stop marks'' → Matched table text q end other words s marks'' most n
      window_done stop i marks'' t =
          record {
            some = g.some;
            low = omega (arith, g.low);
            marked = λ k. (g.full (match_pairing k)).marks_of other words (pairs k.object.tree) marks'' (λ j l. match_mark table text q end other words s k stop i (λ z. t.each z j l));
          }

pub ruleset windowing = (window_word, window_pairing, window_next, window_space, window_chains, window_done, rules)
