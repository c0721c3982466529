-- WHAT THE FUNCTIONS OF THE SIEVE SHOW, each over the words that it leaves. Assumes nothing.
use Rattle.std.specs.Prelude.{◌≡◌, List, ◌⊎◌, Bool, true, false, ℕ, ◌+◌, ◌/◌, ◌-◌, ◌≤◌, ◌<◌, length, get_or, set, take, drop}
use Rattle.std.proofs.Common.{sym, ap, ◌∙◌, inl, inr, mod-lt, arith, length-set, get_or-set_same, get_or-set_other, rules}
use Rattle.std.proofs.Math.Decide.{ℕ_discrete}
use Rattle.std.proofs.Common.{MatchBool, length-take, length-drop}
use Rattle.std.proofs.lemmas.List.{get_or-take, get_or-drop}
use Rattle.std.specs.List.{HoldsAt, AllWithin}
use Rattle.exact.specs.Tells.{Tells, tells_yes, tells_no}
use Rattle.sieve.specs.Bits.{On, Sets, on_same}
use Rattle.sieve.specs.Sieve.{hits, top, broken, list_at, lists, seen, again, filter, large, class_of, Near, Steps, Flags}
use Rattle.sieve.specs.More.{own_flagged, own_seen, own_put, first_two, first_three, first_four, first_steps, lost_steps}

-- ---- what the functions show

-- among the first n of a list
pub record NearBelow (S : List ℕ) (d n h : ℕ) : Type 0 where
  pub number : ℕ
  pub low : number < n
  pub is : get_or S (list_at d + 2 + number) 0 ≡ h

module _ (S : List ℕ) (d n h : ℕ) where
  pub near_first : NearBelow S d 0 h → ⊥
  near_first x = omega (arith, x.low)

  pub near_found : (i w : ℕ) → i < n → w ≡ get_or S (list_at d + 2 + i) 0 → w ≡ h → NearBelow S d n h
  near_found i w l e f = record { number = i; low = l; is = sym e ∙ f }

  pub near_more : (i w : ℕ) → (NearBelow S d i h → ⊥) → w ≡ get_or S (list_at d + 2 + i) 0 → (w ≡ h → ⊥) → NearBelow S d (i + 1) h → ⊥
  near_more i w m e f x = by (ℕ_discrete x.number i)
    where
      by : Dec (x.number ≡ i) → ⊥
      by (yes z) = f (e ∙ (ap (λ (k : ℕ). get_or S (list_at d + 2 + k) 0) (sym z) ∙ x.is))
      by (no z) = m (record { number = x.number; low = omega (arith, x.low); is = x.is })

  pub near_done : (i : ℕ) → i ≤ n → n ≤ i → (NearBelow S d i h → ⊥) → NearBelow S d n h → ⊥
  near_done i l m f x = f (record { number = x.number; low = omega (arith, x.low); is = x.is })

  pub near_low : (i : ℕ) → length S ≡ large → d < lists → n ≤ 16 → i < n → list_at d + 2 + i < length S
  near_low i e l m v = omega arith

-- by a look at the list as a slice
module _ (S xs : List ℕ) (a d n h : ℕ) (e : a ≡ list_at d) (f : xs ≡ take (a + 2 + n - (a + 2)) (drop (a + 2) S)) (l : a + 2 + n ≤ length S) where
  sliced : (k : ℕ) → k < n → get_or xs k 0 ≡ get_or S (list_at d + 2 + k) 0
  sliced k m =
      rw f
      (get_or-take (a + 2 + n - (a + 2)) (drop (a + 2) S) k 0 (omega arith)
      ∙ (get_or-drop (a + 2) S k 0 ∙ ap (λ (i : ℕ). get_or S i 0) (let z : a + 2 + k ≡ list_at d + 2 + k = omega arith in z)))

  long : length xs ≤ n
  long = rw f (omega (arith, length-take (a + 2 + n - (a + 2)) (drop (a + 2) S)))

  full : n ≤ length xs
  full = rw f (omega (arith, length-take (a + 2 + n - (a + 2)) (drop (a + 2) S), length-drop (a + 2) S))

  pub near_any : (r : Bool) → MatchBool r ((k : ℕ) × (k < length xs) × HoldsAt (λ x. x ≡ h) xs k) (AllWithin (λ x. x ≡ h → ⊥) xs 0 (length xs)) → Tells (NearBelow S d n h) r
  near_any true m = record { number = m.0; low = omega (arith, m.1, long); is = sym (sliced m.0 (omega (arith, m.1, long))) ∙ m.2 0 }
  near_any false m = λ x. m x.number 0 (omega arith) (omega (arith, x.low, full)) (sliced x.number x.low ∙ x.is)

-- a flag, from the bit that is set and the count
module _ (S : List ℕ) (c : ℕ) (long : length S ≡ large) (l : c < 131072) (T : List ℕ) (x : Sets S again c T) where
  inside : (i : ℕ) → (i < again) ⊎ (filter ≤ i) → get_or T i 0 ≡ get_or S i 0
  inside i (inl m) = x.other i (λ e. omega arith)
  inside i (inr m) = x.other i (λ e. omega arith)

  pub flag_room : hits < length T
  flag_room = omega (arith, x.long)

  pub flag_full : (n : ℕ) → n ≡ get_or T hits 0 → large ≤ n → Flags S c T
  flag_full n e m =
      record {
        long = x.long;
        on = x.on;
        some = omega arith;
        keeps = λ d o. x.keeps again d o;
        below = λ i v. inside i (inl (omega arith));
        between = λ i u v. inside i (inl v);
        above = λ i v. inside i (inr v);
      }

  pub flag_more : (n : ℕ) → Flags S c (set T hits (n + 1))
  flag_more n =
      let o : (i : ℕ) → (i ≡ hits → ⊥) → get_or (set T hits (n + 1)) i 0 ≡ get_or T i 0 = λ i z. get_or-set_other T hits i (n + 1) 0 z in
      record {
        long = length-set T hits (n + 1) ∙ x.long;
        on = on_same T (set T hits (n + 1)) again c (o (again + c / 32) (λ z. omega arith)) x.on;
        some = (let e = get_or-set_same T hits (n + 1) 0 flag_room in omega arith);
        keeps = λ d v. on_same T (set T hits (n + 1)) again d (o (again + d / 32) (λ z. omega arith)) (x.keeps again d v);
        below = λ i v. o i (λ z. omega arith) ∙ inside i (inl (omega arith));
        between = λ i u v. o i (λ z. omega arith) ∙ inside i (inl v);
        above = λ i v. o i (λ z. omega arith) ∙ inside i (inr v);
      }

pub flag_bit : (S : List ℕ) (c : ℕ) → length S ≡ large → c < 131072 → again + c / 32 < length S
flag_bit S c e l = omega arith

pub ruleset flagging = (flag_room, flag_full, flag_more, flag_bit, rules)

-- ---- `own`

pub record Owning (S : List ℕ) (d n h : ℕ) : Type 0 where
  pub long : length S ≡ large
  pub depth : d < lists
  pub count : n ≡ get_or S (list_at d + 1) 0
  pub few : n ≤ 16
  pub low : h < 4294967296

pub record Owned (S : List ℕ) (d h : ℕ) (S' : List ℕ) : Type 0 where
  pub steps : (q : ℕ) → get_or S (list_at d) 0 ≡ q + 1 → get_or S broken 0 ≡ 0 → Steps S q h S'

pub class_small : (h c : ℕ) → c ≡ class_of h → c < 131072
class_small h c e = rw e (mod-lt (h + h / 32768) (omega arith))

module _ (S : List ℕ) (d n h : ℕ) (a : Owning S d n h) where
  pub own_low : h < 4294967296
  own_low = a.low

  pub own_near : (length S ≡ large) × (d < lists) × (n ≤ 16)
  own_near = (a.long, a.depth, a.few)

  pub own_flag : (c : ℕ) → c ≡ class_of h → (length S ≡ large) × (c < 131072)
  own_flag c e = (a.long, class_small h c e)

  pub own_bit : (c : ℕ) → c ≡ class_of h → (seen + c / 32 < length S) × (seen < 4294967296)
  own_bit c e = (let l = class_small h c e in let m = a.long in omega arith, omega arith)

  near_is : NearBelow S d n h → Near S d h
  near_is x = record { number = x.number; low = omega (arith, x.low, a.count); is = x.is }

  near_not : (NearBelow S d n h → ⊥) → Near S d h → ⊥
  near_not f x = f (record { number = x.number; low = omega (arith, x.low, a.count); is = x.is })

  module _ (c : ℕ) (e : c ≡ class_of h) where
    pub owned_near : (S' : List ℕ) (r : Bool) → r ≡ true → Tells (NearBelow S d n h) r → Flags S c S' → Owned S d h S'
    owned_near S' r v t x = record { steps = λ q u b. own_flagged S S' q h d a.depth u b (inl (near_is (tells_yes r v t))) (rw e at x) }

    pub owned_seen : (S' : List ℕ) (r : Bool) → r ≡ true → Tells (On S seen c) r → Flags S c S' → Owned S d h S'
    owned_seen S' r v t x =
        let o : On S seen (class_of h) = rw e at (tells_yes r v t) in
        record { steps = λ q u b. own_flagged S S' q h d a.depth u b (inr o) (rw e at x) }

    module _ (r : Bool) (v : r ≡ false) (t : Tells (NearBelow S d n h) r) (s : Bool) (w : s ≡ false) (o : Tells (On S seen c) s) where
      not_seen : On S seen (class_of h) → ⊥
      not_seen = rw e at (tells_no s w o)

      pub owned_put : n < 16 → Owned S d h (set (set S (list_at d + 2 + n) h) (list_at d + 1) (n + 1))
      owned_put l = record { steps = λ q u b. own_put S h d n a.depth a.long a.count l q u b (near_not (tells_no r v t)) not_seen }

      pub owned_bit : (S' : List ℕ) → Sets S seen c S' → Owned S d h S'
      owned_bit S' x = record { steps = λ q u b. own_seen S S' h (rw e at x) q d a.depth u b (near_not (tells_no r v t)) not_seen }

  pub own_first : n < 16 → list_at d + 2 + n < length S
  own_first l = let m = a.long in let k = a.depth in omega arith

  pub own_second : n < 16 → list_at d + 1 < length (set S (list_at d + 2 + n) h)
  own_second l = let m = a.long in let k = a.depth in omega (arith, length-set S (list_at d + 2 + n) h)

pub ruleset owning = (own_low, own_near, own_flag, own_bit, owned_near, owned_seen, owned_put, owned_bit, own_first, own_second, rules)

-- ---- `first`, `placed` and `sieve`

pub record Begun (S : List ℕ) (q h : ℕ) (S' : List ℕ) : Type 0 where
  pub steps : get_or S top 0 ≤ q → get_or S broken 0 ≡ 0 → Steps S q h S'

pub begins : (S : List ℕ) (q h d : ℕ) → d < lists → length S ≡ large
    → Begun S q h (set (set (set (set S top (q + 1)) (list_at d) (q + 1)) (list_at d + 1) 1) (list_at d + 2) h)
begins S q h d l e = record { steps = first_steps S q h d l e }

pub ruleset beginning = (first_two, first_three, first_four, begins, rules)

pub placed_first : (S : List ℕ) (q h : ℕ) (S' : List ℕ) (t : ℕ) → Begun S q h S' → t ≡ get_or S top 0 → t ≤ q → get_or S broken 0 ≡ 0 → Steps S q h S'
placed_first S q h S' t x e l b = x.steps (omega arith) b

pub placed_own : (S : List ℕ) (d q h : ℕ) (S' : List ℕ) (o : ℕ) → Owned S d h S' → o ≡ get_or S (list_at d) 0 → o ≡ q + 1 → get_or S broken 0 ≡ 0 → Steps S q h S'
placed_own S d q h S' o x e f b = x.steps q (sym e ∙ f) b

pub placed_owning : (S : List ℕ) (d n h : ℕ) → length S ≡ large → d < lists → n ≡ get_or S (list_at d + 1) 0 → n ≤ 16 → h < 4294967296 → Owning S d n h
placed_owning S d n h a b c e f = record { long = a; depth = b; count = c; few = e; low = f }

pub list_low : (S : List ℕ) (d : ℕ) → length S ≡ large → d < lists → list_at d + 1 < length S
list_low S d e l = omega arith

pub list_low' : (S : List ℕ) (d : ℕ) → length S ≡ large → d < lists → list_at d < length S
list_low' S d e l = omega arith

pub lost_long : (S : List ℕ) → length S ≡ large → length (set S broken 1) ≡ large
lost_long S e = length-set S broken 1 ∙ e

pub lost_flags : (S : List ℕ) (q h : ℕ) (S' : List ℕ) (c : ℕ) → length S ≡ large → c ≡ class_of h → Flags (set S broken 1) c S' → Steps S q h S'
lost_flags S q h S' c e f x = lost_steps S q h S' e (rw f at x)

pub lost_same : (S : List ℕ) (c : ℕ) (S' : List ℕ) → Flags (set S broken 1) c S' → length S' ≡ length S
lost_same S c S' x = x.long ∙ length-set S broken 1

pub ruleset losing = (lost_long, lost_flags, lost_same, class_small, rules)

pub ruleset placing = (placed_first, placed_own, placed_owning, list_low, list_low', rules)

pub unbroken : (S : List ℕ) (b : ℕ) → b ≡ get_or S broken 0 → b < 1 → get_or S broken 0 ≡ 0
unbroken S b e l = omega arith

pub one_more : (q : ℕ) → q < 4294967295 → q + 1 < 4294967296
one_more q l = omega arith
