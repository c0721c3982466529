-- KEYS IN THE ORDER OF THEIR TEXTS: what is asked of the functions that seek and insert, what they tell, and the laws that `search` takes. Assumes nothing.
use Rattle.std.specs.Prelude.{◌≡◌, refl, List, [], ◌∷◌, Bool, true, ℕ, suc, ◌+◌, ◌-◌, ◌/◌, ◌≤◌, ◌<◌, length, get_or, Result, Ok, Err}
use Rattle.std.proofs.Math.Path.{subst}
use Rattle.std.proofs.Common.{sym, ap, ◌∙◌, add-zero, arith, rules}
use Rattle.std.proofs.Math.Bool.{false}
use Rattle.std.proofs.Math.Seq.{slice, slice-cons, slice_empty}
use Rattle.std.specs.Cmp.{ranks}
use Rattle.std.specs.Ordering.{nat_cmp, MatchOrdering}
use Rattle.exact.specs.Class.{clash}
use Rattle.exact.specs.Tells.{Tells, tells_yes, tells_no}
use Rattle.std.specs.declared.cmp.Ordering.{Ordering}
use Rattle.std.specs.declared.cmp.Ordering.TheVariants.{Less, Equal, Greater}
use Rattle.repeats.specs.Order.{shorter, Ordered, ordered_less, ordered_more, ordered_further}
use Rattle.repeats.specs.Sorted.{Ranked, ranked_none, Sought, seek_first, seek_key, seek_less, seek_more, seek_none, Inserted, ranked_more}
use Rattle.distinct.specs.Names.{Part, spelt, Held, held_first, Numbered, held_number, number_part, Sits, sits_at, Twice, twice_none, twice_more}

-- ---- the order of two texts

-- they stand to each other as what is left of them does
pub record Agree (text : List ℕ) (a e : ℕ) (words : List ℕ) (b f i : ℕ) : Type 0 where
  pub one : i ≤ e - a
  pub two : i ≤ f - b
  pub back : (r : Ordering) → Ordered (slice (a + i) e text) (slice (b + i) f words) r → Ordered (slice a e text) (slice b f words) r

-- two bytes that are not the same tell how texts that begin with them stand
apart_by : (c d : ℕ) (s t : List ℕ) → (c ≡ d → ⊥) → (r : Ordering) → r ≡ nat_cmp c d → Ordered (c ∷ s) (d ∷ t) r
apart_by c d s t l r e = by r (rw (← e) at (ranks c d))
  where
    by : (r : Ordering) → MatchOrdering r (c < d) (c ≡ d) (d < c) → Ordered (c ∷ s) (d ∷ t) r
    by Less h = ordered_less c d s t h
    by Equal h = absurd (l h)
    by Greater h = ordered_more c d s t h

module _ (text : List ℕ) (a e : ℕ) (words : List ℕ) (b f : ℕ) where
  pub agree_first : Part text a e → Part words b f → Agree text a e words b f 0
  agree_first p q = record { one = omega arith; two = omega arith; back = λ r x. rw (add-zero a, add-zero b) at x }

  module _ (i : ℕ) (x : Agree text a e words b f i) (p : Part text a e) (q : Part words b f) where
    heads : i < e - a → slice (a + i) e text ≡ get_or text (a + i) 0 ∷ slice (a + (i + 1)) e text
    heads h =
        let s : suc (a + i) ≡ a + (i + 1) = omega arith in
        let l : a + i < e = omega (arith, p.order) in
        slice-cons (a + i) e text 0 l p.fits ∙ ap (λ (k : ℕ). get_or text (a + i) 0 ∷ slice k e text) s

    heads₂ : i < f - b → slice (b + i) f words ≡ get_or words (b + i) 0 ∷ slice (b + (i + 1)) f words
    heads₂ h =
        let s : suc (b + i) ≡ b + (i + 1) = omega arith in
        let l : b + i < f = omega (arith, q.order) in
        slice-cons (b + i) f words 0 l q.fits ∙ ap (λ (k : ℕ). get_or words (b + i) 0 ∷ slice k f words) s

    over : e - a ≤ i → slice (a + i) e text ≡ []
    over h = let z : a + i ≡ e = omega (arith, x.one, p.order) in rw z (slice_empty e text)

    over₂ : f - b ≤ i → slice (b + i) f words ≡ []
    over₂ h = let z : b + i ≡ f = omega (arith, x.two, q.order) in rw z (slice_empty f words)

    further₂ : (i ≡ f - b → ⊥) → i < f - b
    further₂ n = omega (arith, x.two)

    pub agree_inside : i < e - a → a + i < length text
    agree_inside h = omega (arith, p.fits)

    pub agree_inside₂ : (i ≡ f - b → ⊥) → b + i < length words
    agree_inside₂ n = let h = further₂ n in omega (arith, q.fits)

    pub agree_longer : i < e - a → i ≡ f - b → Ordered (slice a e text) (slice b f words) Greater
    unfolding Ordered
    agree_longer h z = let g : f - b ≤ i = omega (arith, z) in x.back Greater (rw (heads h, over₂ g) shorter)

    pub agree_shorter : e - a ≤ i → e - a < f - b → Ordered (slice a e text) (slice b f words) Less
    unfolding Ordered
    agree_shorter h g = let l : i < f - b = omega (arith, x.one) in x.back Less (rw (over h, heads₂ l) shorter)

    pub agree_same : e - a ≤ i → f - b ≤ e - a → Ordered (slice a e text) (slice b f words) Equal
    unfolding Ordered
    agree_same h g = let l : f - b ≤ i = omega arith in x.back Equal (over h ∙ sym (over₂ l))

    module _ (h : i < e - a) (n : i ≡ f - b → ⊥) where
      onto : (r : Ordering) → Ordered (get_or text (a + i) 0 ∷ slice (a + (i + 1)) e text) (get_or words (b + i) 0 ∷ slice (b + (i + 1)) f words) r → Ordered (slice a e text) (slice b f words) r
      onto r y = x.back r (rw (heads h, heads₂ (further₂ n)) y)

      pub agree_apart : (get_or text (a + i) 0 ≡ get_or words (b + i) 0 → ⊥) → (r : Ordering) → r ≡ nat_cmp (get_or text (a + i) 0) (get_or words (b + i) 0) → Ordered (slice a e text) (slice b f words) r
      agree_apart l r k = onto r (apart_by (get_or text (a + i) 0) (get_or words (b + i) 0) (slice (a + (i + 1)) e text) (slice (b + (i + 1)) f words) l r k)

      pub agree_on : get_or text (a + i) 0 ≡ get_or words (b + i) 0 → Agree text a e words b f (i + 1)
      agree_on k =
          record {
            one = omega arith;
            two = let z = further₂ n in omega arith;
            back = λ r y. onto r (ordered_further (get_or text (a + i) 0) (get_or words (b + i) 0) (slice (a + (i + 1)) e text) (slice (b + (i + 1)) f words) k r y);
          }

pub ruleset agreeing = (agree_first, agree_inside, agree_inside₂, agree_longer, agree_shorter, agree_same, agree_apart, agree_on, rules)

-- ---- the order of a text and that of a key

pub order_told : (text froms tos : List ℕ) (k c d : ℕ) → c ≡ get_or froms k 0 → d ≡ get_or tos k 0 → (words : List ℕ) (b f : ℕ) → (y : Ordering) → Ordered (slice b f words) (slice c d text) y
    → Ordered (slice b f words) (spelt text froms tos k) y
order_told text froms tos k c d i j words b f y t = rw (i, j) at t

pub ruleset telling = (number_part, order_told, rules)

-- ---- where a text belongs

pub record InOrder (text froms tos order : List ℕ) (n : ℕ) : Type 0 where
  pub held : Held text froms tos n
  pub room : n ≤ length order
  pub ranked : Ranked (spelt text froms tos) order n

-- behind the first p; or it is that of one of them
unfoldable pub Finds : List ℕ → List ℕ → List ℕ → List ℕ → ℕ → List ℕ → Result ℕ ℕ → Type 0
Finds text froms tos order n s (Err p) = Sought (spelt text froms tos) s order n p p
Finds text froms tos order n s (Ok k) = (k < n) × (s ≡ spelt text froms tos k)

module _ (text froms tos order : List ℕ) (n : ℕ) (s : List ℕ) (r : Result ℕ ℕ) (y : Finds text froms tos order n s r) where
  sought : (p : ℕ) → r ≡ Err p → Sought (spelt text froms tos) s order n p p
  unfolding Finds
  sought p e = rw e at y

  pub gap_within : (p : ℕ) → r ≡ Err p → p ≤ n
  gap_within p e = (sought p e).inside

  pub stands_low : (k : ℕ) → r ≡ Ok k → k < n
  unfolding Finds
  stands_low k e = let z : Finds text froms tos order n s (Ok k) = rw e at y in z.0

  pub stands_same : (k : ℕ) → r ≡ Ok k → s ≡ spelt text froms tos k
  unfolding Finds
  stands_same k e = let z : Finds text froms tos order n s (Ok k) = rw e at y in z.1

  pub stands_sits : (k : ℕ) → r ≡ Ok k → Sits text froms tos s n
  stands_sits k e = sits_at text froms tos k (stands_low k e) (stands_same k e)

  pub gap_none : Ranked (spelt text froms tos) order n → (p : ℕ) → r ≡ Err p → Sits text froms tos s n → ⊥
  gap_none w p e x = seek_none (spelt text froms tos) s order n w p (sought p e) x.other x.key.before x.same

module _ (text froms tos order : List ℕ) (n : ℕ) (w : InOrder text froms tos order n) (words : List ℕ) (b f : ℕ) where
  abbrev s : List ℕ
  s = slice b f words

  abbrev name : ℕ → List ℕ
  name = spelt text froms tos

  pub find_first : Sought name s order n 0 n
  find_first = seek_first name s order n w.ranked

  module _ (lo hi : ℕ) (x : Sought name s order n lo hi) where
    pub find_gap : hi ≤ lo → Finds text froms tos order n s (Err lo)
    unfolding Finds
    find_gap l = let e : hi ≡ lo = omega (arith, x.ordered) in rw e at x

    pub find_sum : lo + hi < 16385
    find_sum = omega (arith, x.ordered, x.inside, w.held.few)

    module _ (l : lo < hi) (mid : ℕ) (e : mid ≡ (lo + hi) / 2) where
      pub find_inside : mid < length order
      find_inside = omega (arith, x.inside, w.room)

      pub find_less : mid < hi
      find_less = omega arith

      module _ (k : ℕ) (g : k ≡ get_or order mid 0) where
        key : k < n
        key = rw g (seek_key name s order n w.ranked lo hi mid x (omega arith) (omega arith))

        pub find_number : Numbered text froms tos k
        find_number = held_number k w.held key

        module _ (o : Ordering) (t : Ordered (slice b f words) (spelt text froms tos k) o) where
          pub find_there : o ≡ Equal → Finds text froms tos order n s (Ok k)
          unfolding Finds Ordered
          find_there h = (key, rw h at t)

          pub find_below : o ≡ Less → Sought name s order n lo mid
          unfolding Ordered
          find_below h = seek_less name s order n w.ranked lo hi mid x (omega arith) (omega arith) (rw g at (rw h at t))

          pub find_above : (lo' : ℕ) → o ≡ Greater → lo' ≡ mid + 1 → Sought name s order n lo' hi
          unfolding Ordered
          find_above lo' h z = rw z (seek_more name s order n w.ranked lo hi mid x (omega arith) (omega arith) (rw g at (rw h at t)))

pub ruleset finding = (find_first, find_gap, find_sum, find_inside, find_less, find_number, find_there, find_below, find_above, rules)

-- ---- a key joins those before it, if it has the text of none

pub record Joining (text froms tos order : List ℕ) (n i : ℕ) : Type 0 where
  pub low : i < n
  pub held : Held text froms tos n
  pub room : n ≤ length order
  pub ranked : Ranked (spelt text froms tos) order i

pub record Joined (text froms tos order : List ℕ) (i : ℕ) (r : Bool) : Type 0 where
  pub tells : Tells (Sits text froms tos (spelt text froms tos i) i) r
  pub ranked : r ≡ false → Ranked (spelt text froms tos) order (i + 1)

module _ (text froms tos order : List ℕ) (n i : ℕ) (w : Joining text froms tos order n i) where
  pub join_from : i < length froms
  join_from = omega (arith, w.held.from_room, w.low)

  pub join_to : i < length tos
  join_to = omega (arith, w.held.to_room, w.low)

  pub join_order : i < length order
  join_order = omega (arith, w.room, w.low)

  pub join_few : i < 65536
  join_few = omega (arith, w.held.few, w.low)

  pub join_in : InOrder text froms tos order i
  join_in = record { held = held_first i w.held (omega (arith, w.low)); room = omega (arith, w.room, w.low); ranked = w.ranked }

  module _ (a e : ℕ) (u : a ≡ get_or froms i 0) (v : e ≡ get_or tos i 0) where
    pub join_part : Part text a e
    join_part = rw (u, v) (w.held.part i w.low)

    module _ (r : Result ℕ ℕ) (y : Finds text froms tos order i (slice a e text) r) where
      found : Finds text froms tos order i (spelt text froms tos i) r
      found = rw (u, v) at y

      pub join_there : (k : ℕ) → r ≡ Ok k → Joined text froms tos order i true
      join_there k f = record { tells = stands_sits text froms tos order i (spelt text froms tos i) r found k f; ranked = λ g. absurd (clash refl g) }

      pub join_gap : (p : ℕ) → r ≡ Err p → (order' : List ℕ) → Inserted order order' p i → Joined text froms tos order' i false
      join_gap p f order' z =
          record {
            tells = gap_none text froms tos order i (spelt text froms tos i) r found w.ranked p f;
            ranked = λ g. ranked_more (spelt text froms tos) order order' p i w.ranked (sought text froms tos order i (spelt text froms tos i) r found p f) z;
          }

pub ruleset joining = (join_from, join_to, join_order, join_few, join_in, join_part, join_there, join_gap, gap_within, rules)

-- ---- all keys

-- one has the text of an earlier one; or none has, and all stand in order
unfoldable pub Ranged : List ℕ → List ℕ → List ℕ → List ℕ → ℕ → Bool → Type 0
Ranged text froms tos order n true = Twice text froms tos n
Ranged text froms tos order n false = (Twice text froms tos n → ⊥) × Ranked (spelt text froms tos) order n

module _ (text froms tos order : List ℕ) (n : ℕ) (b : Bool) (t : Ranged text froms tos order n b) where
  pub ranged_twice : b ≡ true → Twice text froms tos n
  unfolding Ranged
  ranged_twice e = rw e at t

  pub ranged_once : b ≡ false → Twice text froms tos n → ⊥
  unfolding Ranged
  ranged_once e = let z : Ranged text froms tos order n false = rw e at t in z.0

  pub ranged_in : (first : List ℕ) → Held text froms tos n → n ≤ length first → length order ≡ length first → b ≡ false → InOrder text froms tos order n
  unfolding Ranged
  ranged_in first h l k e = let z : Ranged text froms tos order n false = rw e at t in record { held = h; room = omega arith; ranked = z.1 }

pub record Sorting (text froms tos order : List ℕ) (n i : ℕ) : Type 0 where
  pub within : i ≤ n
  pub held : Held text froms tos n
  pub room : n ≤ length order
  pub ranked : Ranked (spelt text froms tos) order i
  pub none : Twice text froms tos i → ⊥

module _ (text froms tos : List ℕ) (n : ℕ) where
  pub sorting_first : (order : List ℕ) → Held text froms tos n → n ≤ length order → Sorting text froms tos order n 0
  sorting_first order h l = record { within = omega arith; held = h; room = l; ranked = ranked_none (spelt text froms tos) order; none = twice_none text froms tos }

  module _ (order : List ℕ) (i : ℕ) (x : Sorting text froms tos order n i) where
    pub sorting_joining : i < n → Joining text froms tos order n i
    sorting_joining l = record { low = l; held = x.held; room = x.room; ranked = x.ranked }

    pub sorting_few : i < n → i < 8192
    sorting_few l = omega (arith, x.held.few)

    pub sorting_done : n ≤ i → Ranged text froms tos order n false
    unfolding Ranged
    sorting_done l = let e : i ≡ n = omega (arith, x.within) in subst (λ (j : ℕ). (Twice text froms tos j → ⊥) × Ranked (spelt text froms tos) order j) e (x.none, x.ranked)

    module _ (order' : List ℕ) (r : Bool) (y : Joined text froms tos order' i r) (l : i < n) where
      pub sorting_again : r ≡ true → Ranged text froms tos order' n true
      unfolding Ranged
      sorting_again e = record { number = i; low = l; earlier = tells_yes r e y.tells }

      pub sorting_more : r ≡ false → length order' ≡ length order → Sorting text froms tos order' n (i + 1)
      sorting_more e g =
          record { within = omega arith; held = x.held; room = omega (arith, x.room); ranked = y.ranked e; none = twice_more text froms tos x.none (tells_no r e y.tells) }

pub ruleset sorting = (sorting_first, sorting_joining, sorting_few, sorting_done, sorting_again, sorting_more, rules)
