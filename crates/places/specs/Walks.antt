-- KEYS NOTED, PASSED IN TURN: what is asked of the keys, their marks and the chains, and the answer for the keys passed. Assumes nothing.
use Rattle.std.specs.Prelude.{◌≡◌, ℕ, ◌+◌, ◌-◌, ◌*◌, ◌<◌, ◌≤◌, Bool, true, false, List, length, replicate, slice_index, slice_set, refl, Some, None, Result, Ok, Err}
use Rattle.std.proofs.Common.{sym, ap, subst, ◌∙◌, arith, get_or-set_same, get_or-set_other, rules}
use Rattle.std.proofs.Math.Decide.{ℕ_discrete}
use lib.ListN.{length-replicate}
use Rattle.repeats.specs.Numbering.{Same, mark_of, spread, chain_of, chain_at}
use Rattle.repeats.specs.Walk.{Walks, walks_long, Walking, chain_first, chain_none, chain_before, chain_met, chain_room, chain_less, chain_more}
use Rattle.repeats.specs.Links.{Earlier, Chains, note_walkable, note_low, note_small, note_met, note_past, note_chains}
use Rattle.repeats.specs.Links
use Rattle.repeats.specs.Later.{Names, Later, names_few, names_same, names_first, chains_start}
use Rattle.repeats.specs.declared.TooLong.{TooLong}
use Rattle.places.specs.declared.names.Marks.{Marks}
use Rattle.places.specs.Places.{object_at, place_at, place_keys, Placed}
use Rattle.places.specs.Names.{Keyed, MarksOf, Compared}

-- the marks of the first i of n keys are stored
pub record Held (doc keys marks : List ℕ) (n i : ℕ) : Type 0 where
  pub placed : Placed doc keys n
  pub room : n ≤ length marks
  pub stored : (k : ℕ) → k < i → slice_index marks k ≡ mark_of (place_keys doc keys) k

pub held_none : (doc keys marks : List ℕ) (n : ℕ) → Placed doc keys n → n ≤ length marks → Held doc keys marks n 0
held_none doc keys marks n p l = record { placed = p; room = l; stored = λ k h. absurd (omega arith) }

module _ (doc keys marks : List ℕ) (n i : ℕ) (l : i < n) where
  pub held_key : (h : ℕ) → Held doc keys marks n h → (a : ℕ) → a ≡ place_at keys i → Keyed doc a
  held_key h w a e = rw e (record { short = w.placed.short; key = w.placed.key i l })

  -- one more is
  pub held_more : Held doc keys marks n i → (a o : ℕ) (m : Marks) → a ≡ place_at keys i → MarksOf doc a o m → Held doc keys (slice_set marks i m.mark) n (i + 1)
  held_more w a o m e x =
      record {
        placed = w.placed;
        room = simp lib.ListN.length-set w.room;
        stored = λ k h. by k h (ℕ_discrete k i);
      }
    where
      by : (k : ℕ) → k < i + 1 → Dec (k ≡ i) → slice_index (slice_set marks i m.mark) k ≡ mark_of (place_keys doc keys) k
      by k h (yes f) = rw f (get_or-set_same marks i m.mark 0 (omega (arith, w.room)) ∙ (x.mark_is ∙ rw e refl))
      by k h (no f) = get_or-set_other marks i k m.mark 0 f ∙ w.stored k (omega arith)

  pub held_compared : Held doc keys marks n (i + 1) → (k : ℕ) → k < i → Compared doc keys marks i k
  held_compared w k h =
      record {
        one = held_key (i + 1) w (place_at keys i) refl;
        two = record { short = w.placed.short; key = w.placed.key k (omega arith) };
        room = omega (arith, w.placed.room);
        room₂ = omega (arith, w.placed.room);
        low = omega (arith, w.room);
        low₂ = omega (arith, w.room);
        mark_is = w.stored i (omega arith);
        mark_is₂ = w.stored k (omega arith);
      }

-- ---- a walk along a chain, which may be broken off

pub record Walkable (doc keys marks links : List ℕ) (head i : ℕ) : Type 0 where
  pub n : ℕ
  pub low : i < n
  pub held : Held doc keys marks n (i + 1)
  pub walk : Links.Walkable (place_keys doc keys) links head i

module _ (doc keys marks links : List ℕ) (head i : ℕ) (w : Walkable doc keys marks links head i) where
  pub chain_compared : (h steps : ℕ) → Walking (place_keys doc keys) (Same (place_keys doc keys) i) links head i h steps → 0 < h → (k : ℕ) → k ≡ h - 1 → Compared doc keys marks i k
  chain_compared h steps x l k e =
      held_compared doc keys marks w.n i w.low w.held k (chain_before (place_keys doc keys) (Same (place_keys doc keys) i) links head i w.walk h steps x l k e)

pub ruleset walking = (chain_first, walks_long, chain_none, chain_compared, chain_met, chain_room, chain_less, chain_more, rules)

-- ---- a key takes its place in its chain

pub record Chaining (doc keys heads links marks : List ℕ) (i : ℕ) : Type 0 where
  pub n : ℕ
  pub low : i < n
  pub held : Held doc keys marks n i
  pub noting : Links.Noting (place_keys doc keys) heads links i

-- the keys up to it stand in the chains, and it is told whether an earlier one is the same
pub record Chained (doc keys heads links marks : List ℕ) (i : ℕ) (r : Result Bool TooLong) : Type 0 where
  pub chains : Chains (place_keys doc keys) heads links (i + 1)
  pub stored : (k : ℕ) → k < i + 1 → slice_index marks k ≡ mark_of (place_keys doc keys) k
  pub tells : Walks (Earlier (place_keys doc keys) i) r

module _ (doc keys heads links marks : List ℕ) (i : ℕ) (w : Chaining doc keys heads links marks i) where
  pub chained_room : 4 + 2 * i + 1 < length keys
  chained_room = omega (arith, w.held.placed.room, w.low)

  pub chained_low : i < length marks
  chained_low = omega (arith, w.held.room, w.low)

  pub chained_few : i < 8192
  chained_few = omega (arith, w.held.placed.few, w.low)

  pub chained_links : i < length links
  chained_links = w.noting.room

  pub chained_key : (a : ℕ) → a ≡ place_at keys i → Keyed doc a
  chained_key = held_key doc keys marks w.n i w.low i w.held

  module _ (a o : ℕ) (m : Marks) (e : a ≡ place_at keys i) (f : o ≡ object_at keys i) (x : MarksOf doc a o m) (c : ℕ) (g : c ≡ spread m.stir) where
    chain_is : c ≡ chain_at (place_keys doc keys) i
    unfolding chain_of
    chain_is = g ∙ (ap spread x.stir_is ∙ rw (e, f) refl)

    pub chained_small : c < 4096
    chained_small = note_small (place_keys doc keys) heads links i w.noting c chain_is

    pub chained_head : c < length heads
    chained_head = note_low (place_keys doc keys) heads links i w.noting c chain_is

    pub chained_walk : (head : ℕ) → head ≡ slice_index heads c → Walkable doc keys (slice_set marks i m.mark) links head i
    chained_walk head z =
        rw z
        (record {
          n = w.n;
          low = w.low;
          held = held_more doc keys marks w.n i w.low w.held a o m e x;
          walk = note_walkable (place_keys doc keys) heads links i w.noting c chain_is;
        })

    pub chained_all : (head : ℕ) → head ≡ slice_index heads c → (r : Result Bool TooLong) → Walks (Links.Met (Same (place_keys doc keys) i) links head) r
        → Chained doc keys (slice_set heads c (i + 1)) (slice_set links i (slice_index heads c)) (slice_set marks i m.mark) i r
    unfolding Walks
    chained_all head z r t =
        record {
          chains = note_chains (place_keys doc keys) heads links i w.noting c chain_is;
          stored = (held_more doc keys marks w.n i w.low w.held a o m e x).stored;
          tells = go r (rw z at t);
        }
      where
        go : (r : Result Bool TooLong) → Walks (Links.Met (Same (place_keys doc keys) i) links (slice_index heads c)) r → Walks (Earlier (place_keys doc keys) i) r
        go (Ok true) t = note_met (place_keys doc keys) heads links i w.noting c chain_is t
        go (Ok false) t = note_past (place_keys doc keys) heads links i w.noting c chain_is t
        go (Err e) t = tt

pub ruleset chaining = (chained_room, chained_low, chained_few, chained_links, chained_key, chained_small, chained_head, chained_walk, chained_all, rules)

-- ---- the keys one after another

-- none of the first i has an earlier one
module _ (doc keys : List ℕ) (n i : ℕ) (p : Placed doc keys n) (x : Names (Later (place_keys doc keys) i) None) where
  pub pass_none : (Earlier (place_keys doc keys) i → ⊥) → Names (Later (place_keys doc keys) (i + 1)) None
  pass_none f = names_same (place_keys doc keys) i None x (λ k z. f z)

  pub pass_again : (q : ℕ) → i < n → q ≡ place_at keys i → Earlier (place_keys doc keys) i → Names (Later (place_keys doc keys) n) (Some q)
  pass_again q l h e =
      subst (λ (j : ℕ). Names (Later (place_keys doc keys) n) (Some j)) (sym h) (names_first (place_keys doc keys) n i x (λ k a b. before k a b) l tt e)
    where
      before : (k : ℕ) → i < k → k < n → place_at keys i < place_at keys k
      before k a b = omega (arith, (p.key i l).ahead, p.order i k a b)

  pub pass_done : i ≤ n → n ≤ i → Names (Later (place_keys doc keys) n) None
  pass_done m l = let e : i ≡ n = omega arith in rw e at x

-- the keys to go over, with none in the chains
pub record Starting (doc keys heads links marks : List ℕ) (n : ℕ) : Type 0 where
  pub placed : Placed doc keys n
  pub room : n ≤ length links
  pub marks_room : n ≤ length marks
  pub chains : Chains (place_keys doc keys) heads links 0

pub starting : (doc keys : List ℕ) (heads links marks n : ℕ) → heads ≡ 4096 → n ≤ links → links ≡ marks → Placed doc keys n → Starting doc keys (replicate heads 0) (replicate links 0) (replicate marks 0) n
starting doc keys heads links marks n e l k p =
    record {
      placed = p;
      room = omega (arith, length-replicate {A = ℕ} links 0);
      marks_room = omega (arith, length-replicate {A = ℕ} marks 0);
      chains = chains_start (place_keys doc keys) heads links e;
    }

-- .. and those passed
pub record Passed (doc keys heads links marks : List ℕ) (n i : ℕ) : Type 0 where
  pub within : i ≤ n
  pub held : Held doc keys marks n i
  pub room : n ≤ length links
  pub chains : Chains (place_keys doc keys) heads links i
  pub names : Names (Later (place_keys doc keys) i) None

module _ (doc keys : List ℕ) (n : ℕ) where
  pub passed_first : (heads links marks : List ℕ) → Starting doc keys heads links marks n → Passed doc keys heads links marks n 0
  passed_first heads links marks w =
      record { within = omega arith; held = held_none doc keys marks n w.placed w.marks_room; room = w.room; chains = w.chains; names = names_few (place_keys doc keys) 0 (omega arith) }

  module _ (heads links marks : List ℕ) (i : ℕ) (x : Passed doc keys heads links marks n i) where
    pub passed_chaining : i < n → Chaining doc keys heads links marks i
    passed_chaining l = record { n = n; low = l; held = x.held; noting = record { room = omega (arith, x.room); chains = x.chains; key = tt } }

    pub passed_room : i < n → 4 + 2 * i + 1 < length keys
    passed_room l = omega (arith, x.held.placed.room)

    pub passed_few : i < n → i < 8192
    passed_few l = omega (arith, x.held.placed.few)

    pub passed_done : n ≤ i → Names (Later (place_keys doc keys) n) None
    passed_done l = pass_done doc keys n i x.held.placed x.names x.within l

    module _ (heads' links' marks' : List ℕ) (b : Bool) (y : Chained doc keys heads' links' marks' i (Ok b)) (l : i < n) where
      pub passed_met : (q : ℕ) → b ≡ true → q ≡ place_at keys i → Names (Later (place_keys doc keys) n) (Some q)
      unfolding Walks
      passed_met q e h = pass_again doc keys n i x.held.placed x.names q l h (rw e at y.tells)

      pub passed_more : b ≡ false → length links' ≡ length links → length marks' ≡ length marks → Passed doc keys heads' links' marks' n (i + 1)
      unfolding Walks
      passed_more e g h =
          record {
            within = omega arith;
            held = record { placed = x.held.placed; room = omega (arith, x.held.room); stored = y.stored };
            room = omega (arith, x.room);
            chains = y.chains;
            names = pass_none doc keys n i x.held.placed x.names (rw e at y.tells);
          }

pub ruleset passing = (passed_first, passed_chaining, passed_room, passed_few, passed_done, passed_met, passed_more, rules)
