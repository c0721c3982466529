-- KEYS NOTED, PUT IN THE ORDER OF THEIR NAMES one after another. Assumes nothing.
use Rattle.std.specs.Prelude.{◌≡◌, ℕ, ◌+◌, ◌*◌, ◌/◌, ◌<◌, ◌≤◌, Bool, true, false, List, length, slice_index, slice_set, Option, Some, None}
use Rattle.std.proofs.Math.Path.{refl}
use Rattle.std.proofs.Common.{arith, rules}
use Rattle.exact.specs.Class.{clash}
use Rattle.exact.specs.Tells.{Tells, tells_yes, tells_no}
use Rattle.repeats.specs.Numbering.{Numbering, mark_of}
use Rattle.repeats.specs.Order.{Ordered, name_of, name_same, same_name}
use Rattle.repeats.specs.Links.{Earlier}
use Rattle.repeats.specs.Later.{Names, Later, names_few}
use Rattle.repeats.specs.Sorted.{Ranked, ranked_none, Sought, seek_first, seek_key, seek_less, seek_more, seek_none, Inserted, ranked_more}
use Rattle.places.specs.declared.names.Marks.{Marks}
use Rattle.std.specs.declared.cmp.Ordering.{Ordering}
use Rattle.std.specs.declared.cmp.Ordering.TheVariants.{Less, Equal, Greater}
use Rattle.places.specs.Places.{place_at, place_keys, Placed}
use Rattle.places.specs.Names.{Keyed, MarksOf, Compared, Stand}
use Rattle.places.specs.Walks.{Held, held_none, held_key, held_more, held_compared, pass_none, pass_again, pass_done}

-- ---- where a key belongs

pub record Seeking (doc keys marks order : List ℕ) (i : ℕ) : Type 0 where
  pub n : ℕ
  pub low : i < n
  pub held : Held doc keys marks n (i + 1)
  pub ranked : Ranked (name_of (place_keys doc keys)) order i
  pub room : n ≤ length order

-- between the first p and the others; or it is the same as one of them
unfoldable pub Finds : List ℕ → List ℕ → List ℕ → ℕ → Option ℕ → Type 0
Finds doc keys order i (Some p) = Sought (name_of (place_keys doc keys)) (name_of (place_keys doc keys) i) order i p p
Finds doc keys order i None = Earlier (place_keys doc keys) i

pub gap_within : (doc keys order : List ℕ) (i : ℕ) (r : Option ℕ) → Finds doc keys order i r → (p : ℕ) → r ≡ Some p → p ≤ i
unfolding Finds
gap_within doc keys order i r y p e = let x : Sought (name_of (place_keys doc keys)) (name_of (place_keys doc keys) i) order i p p = rw e at y in x.inside

module _ (doc keys marks order : List ℕ) (i : ℕ) (w : Seeking doc keys marks order i) where
  abbrev N : Numbering
  N = place_keys doc keys

  pub find_first : Sought (name_of N) (name_of N i) order i 0 i
  find_first = seek_first (name_of N) (name_of N i) order i w.ranked

  pub find_few : i < 8192
  find_few = omega (arith, w.held.placed.few, w.low)

  module _ (lo hi : ℕ) (x : Sought (name_of N) (name_of N i) order i lo hi) where
    pub find_gap : hi ≤ lo → Finds doc keys order i (Some lo)
    unfolding Finds
    find_gap l = let e : hi ≡ lo = omega (arith, x.ordered) in rw e at x

    pub find_sum : lo + hi < 16384
    find_sum = let f = find_few in omega (arith, x.ordered, x.inside)

    module _ (l : lo < hi) (mid : ℕ) (e : mid ≡ (lo + hi) / 2) where
      pub find_inside : mid < length order
      find_inside = omega (arith, x.inside, w.room, w.low)

      pub find_less : mid < hi
      find_less = omega arith

      module _ (k : ℕ) (f : k ≡ slice_index order mid) where
        key : k < i
        key = rw f (seek_key (name_of N) (name_of N i) order i w.ranked lo hi mid x (omega arith) (omega arith))

        pub find_compared : Compared doc keys marks i k
        find_compared = held_compared doc keys marks w.n i w.low w.held k key

        module _ (r : Ordering) (t : Stand doc keys i k r) where
          pub find_there : r ≡ Equal → Finds doc keys order i None
          unfolding Finds Ordered
          find_there h = record { other = k; key = record { before = key; key = tt }; same = name_same N i k (rw h at t) }

          pub find_below : r ≡ Less → Sought (name_of N) (name_of N i) order i lo mid
          unfolding Ordered
          find_below h = seek_less (name_of N) (name_of N i) order i w.ranked lo hi mid x (omega arith) (omega arith) (rw f at (rw h at t))

          pub find_above : (lo' : ℕ) → r ≡ Greater → lo' ≡ mid + 1 → Sought (name_of N) (name_of N i) order i lo' hi
          unfolding Ordered
          find_above lo' h z = rw z (seek_more (name_of N) (name_of N i) order i w.ranked lo hi mid x (omega arith) (omega arith) (rw f at (rw h at t)))

pub ruleset finding = (find_first, find_few, find_gap, find_sum, find_inside, find_less, find_compared, find_there, find_below, find_above, rules)

-- ---- a key joins those before it, if it is none of them

pub record Joining (doc keys order marks : List ℕ) (i : ℕ) : Type 0 where
  pub n : ℕ
  pub low : i < n
  pub held : Held doc keys marks n i
  pub ranked : Ranked (name_of (place_keys doc keys)) order i
  pub room : n ≤ length order

pub record Joined (doc keys order marks : List ℕ) (i : ℕ) (r : Bool) : Type 0 where
  pub tells : Tells (Earlier (place_keys doc keys) i) r
  pub stored : (k : ℕ) → k < i + 1 → slice_index marks k ≡ mark_of (place_keys doc keys) k
  pub ranked : r ≡ false → Ranked (name_of (place_keys doc keys)) order (i + 1)

module _ (doc keys order marks : List ℕ) (i : ℕ) (w : Joining doc keys order marks i) where
  pub join_room : 4 + 2 * i + 1 < length keys
  join_room = omega (arith, w.held.placed.room, w.low)

  pub join_low : i < length marks
  join_low = omega (arith, w.held.room, w.low)

  pub join_order : i < length order
  join_order = omega (arith, w.room, w.low)

  pub join_few : i < 65536
  join_few = omega (arith, w.held.placed.few, w.low)

  pub join_key : (a : ℕ) → a ≡ place_at keys i → Keyed doc a
  join_key = held_key doc keys marks w.n i w.low i w.held

  module _ (a o : ℕ) (m : Marks) (e : a ≡ place_at keys i) (x : MarksOf doc a o m) where
    held : Held doc keys (slice_set marks i m.mark) w.n (i + 1)
    held = held_more doc keys marks w.n i w.low w.held a o m e x

    pub join_seeking : Seeking doc keys (slice_set marks i m.mark) order i
    join_seeking = record { n = w.n; low = w.low; held = held; ranked = w.ranked; room = w.room }

    module _ (r : Option ℕ) (y : Finds doc keys order i r) where
      pub join_there : r ≡ None → Joined doc keys order (slice_set marks i m.mark) i true
      unfolding Finds
      join_there f = record { tells = rw f at y; stored = held.stored; ranked = λ g. absurd (clash refl g) }

      module _ (p : ℕ) (f : r ≡ Some p) where
        sought : Sought (name_of (place_keys doc keys)) (name_of (place_keys doc keys) i) order i p p
        unfolding Finds
        sought = rw f at y

        pub join_gap : (order' : List ℕ) → Inserted order order' p i → Joined doc keys order' (slice_set marks i m.mark) i false
        join_gap order' z =
            record {
              tells = λ u. seek_none (name_of (place_keys doc keys)) (name_of (place_keys doc keys) i) order i w.ranked p sought u.other u.key.before (same_name (place_keys doc keys) i u.other u.same);
              stored = held.stored;
              ranked = λ g. ranked_more (name_of (place_keys doc keys)) order order' p i w.ranked sought z;
            }

pub ruleset joining = (join_room, join_low, join_order, join_few, join_key, join_seeking, join_there, gap_within, join_gap, rules)

-- ---- the keys one after another

pub record Sorting (doc keys order marks : List ℕ) (n i : ℕ) : Type 0 where
  pub within : i ≤ n
  pub held : Held doc keys marks n i
  pub room : n ≤ length order
  pub ranked : Ranked (name_of (place_keys doc keys)) order i
  pub names : Names (Later (place_keys doc keys) i) None

module _ (doc keys : List ℕ) (n : ℕ) where
  pub sorting_first : (order marks : List ℕ) → Placed doc keys n → n ≤ length order → n ≤ length marks → Sorting doc keys order marks n 0
  sorting_first order marks p l m =
      record { within = omega arith; held = held_none doc keys marks n p m; room = l; ranked = ranked_none (name_of (place_keys doc keys)) order; names = names_few (place_keys doc keys) 0 (omega arith) }

  module _ (order marks : List ℕ) (i : ℕ) (x : Sorting doc keys order marks n i) where
    pub sorting_joining : i < n → Joining doc keys order marks i
    sorting_joining l = record { n = n; low = l; held = x.held; ranked = x.ranked; room = x.room }

    pub sorting_room : i < n → 4 + 2 * i + 1 < length keys
    sorting_room l = omega (arith, x.held.placed.room)

    pub sorting_few : i < n → i < 8192
    sorting_few l = omega (arith, x.held.placed.few)

    pub sorting_done : n ≤ i → Names (Later (place_keys doc keys) n) None
    sorting_done l = pass_done doc keys n i x.held.placed x.names x.within l

    module _ (order' marks' : List ℕ) (r : Bool) (y : Joined doc keys order' marks' i r) (l : i < n) where
      pub sorting_again : (q : ℕ) → r ≡ true → q ≡ place_at keys i → Names (Later (place_keys doc keys) n) (Some q)
      sorting_again q e h = pass_again doc keys n i x.held.placed x.names q l h (tells_yes r e y.tells)

      pub sorting_more : r ≡ false → length order' ≡ length order → length marks' ≡ length marks → Sorting doc keys order' marks' n (i + 1)
      sorting_more e g h =
          record {
            within = omega arith;
            held = record { placed = x.held.placed; room = omega (arith, x.held.room); stored = y.stored };
            room = omega (arith, x.room);
            ranked = y.ranked e;
            names = pass_none doc keys n i x.held.placed x.names (tells_no r e y.tells);
          }

pub ruleset sorting = (sorting_first, sorting_joining, sorting_room, sorting_few, sorting_done, sorting_again, sorting_more, rules)
