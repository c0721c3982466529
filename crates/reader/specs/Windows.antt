-- KEYS IN WINDOWS: where every two halves of the log were looked through, up to one with a key named twice, the first such key of the document is known. Assumes nothing.
use Rattle.std.specs.Prelude.{◌≡◌, refl, List, [], ◌++◌, ◌⊎◌, ℕ, ◌+◌, ◌-◌, ◌*◌, ◌/◌, ◌%◌, ◌≤◌, ◌<◌, min, length, take, drop, get_or, set, unwrap_or}
use Rattle.std.proofs.Common.{sym, ap, subst, ◌∙◌, inl, inr, arith, length-set, take-append-drop, get_or-set_same, get_or-set_other, get_or-take, length-take-le, rules}
use Rattle.std.proofs.Math.Decide.{ℕ_discrete}
use Rattle.exact.specs.Verdict.{Res, acc, stop}
use Rattle.language.specs.Tree.{Tree, count}
use Rattle.language.specs.Answered.{limit, deepest}
use Rattle.blocks.specs.Document.{verdict}
use Rattle.notes.specs.Flat.{Named, flat}
use Rattle.notes.specs.Lie.{Keys}
use Rattle.notes.specs.Notes.{Kept}
use Rattle.std.specs.Prelude.{Option}
use Rattle.std.specs.declared.option.Option.TheVariants.{None, Some}
use Rattle.repeats.specs.Flat.{In, in_left, in_right, in_split, Twice, twice_left, twice_right, Split, in_first, in_second, across, twice_split}
use Rattle.repeats.specs.Later.{Names, LeastOf}
use Rattle.places.specs.Places.{Placed}
use Rattle.places.specs.Chosen.{windows, some_keys}
use Rattle.places.specs.Words.{Room}
use Rattle.sieve.specs.Sieve.{large}
use Rattle.notes.specs.Noted.{noteds}
use Rattle.notes.specs.Handed.{log, mode}
use Rattle.places.specs.Sifted.{sift, sift_some, SameFilter, same_sift, Listed, took_listed}
use Rattle.places.specs.Log.{Told, Windowed, windowed, holds_placed, holds_told, keys_count}
use Rattle.judge.specs.Contract.{Logged}
use Rattle.reader.specs.Cuts.{twice_across, take-add, take_whole, drops_count, twice_low, prefix_least}

-- half of the log's keys
abbrev pub half : ℕ
half = 1640

-- ---- the keys of a document, and a large room whose log may be filled with those that pass its filter

abbrev keys_in : Res Tree → List Named
keys_in (acc t) = flat 0 0 t
keys_in (stop p) = []

unfoldable pub keys_of : List ℕ → List Named
keys_of doc = keys_in (verdict deepest doc)

pub keys_of_lem : (doc : List ℕ) (t : Tree) → verdict deepest doc ≡ acc t → keys_of doc ≡ flat 0 0 t
unfolding keys_of
keys_of_lem doc t e = ap keys_in e

-- those that pass the filter of a room
abbrev pub list_of : List ℕ → List ℕ → List Named
list_of doc keys = sift keys (keys_of doc)

-- a document within the limit, and a large room
pub record Roomed (doc keys : List ℕ) : Type 0 where
  pub tree : Tree
  pub short : length doc ≤ limit
  pub is : verdict deepest doc ≡ acc tree
  pub lie : Keys doc 0 (keys_of doc) (length doc)
  pub long : length keys ≡ large

pub roomed_on : (doc keys keys' : List ℕ) → Roomed doc keys → length keys' ≡ length keys → Roomed doc keys'
roomed_on doc keys keys' x e = record { tree = x.tree; short = x.short; is = x.is; lie = x.lie; long = e ∙ x.long }

-- .. in which keys are noted, and ks are those that pass
pub record Filed (doc : List ℕ) (ks : List Named) (keys : List ℕ) : Type 0 where
  pub roomed : Roomed doc keys
  pub mode : get_or keys mode 0 ≡ 0
  pub list : list_of doc keys ≡ ks

-- the list of a room is its own
filed_own : (doc : List ℕ) (ks : List Named) (keys : List ℕ) → Filed doc ks keys → Filed doc (list_of doc keys) keys
filed_own doc ks keys x = record { roomed = x.roomed; mode = x.mode; list = refl }

filed_lie : (doc : List ℕ) (ks : List Named) (keys : List ℕ) → Filed doc ks keys → Keys doc 0 ks (length doc)
filed_lie doc ks keys x = subst (λ (l : List Named). Keys doc 0 l (length doc)) x.list (some_keys (sift_some keys (keys_of doc)) x.roomed.lie)

-- ---- what `emptied` shows

pub record Emptied (keys : List ℕ) (before between : ℕ) (keys' : List ℕ) : Type 0 where
  pub counts : get_or keys' 0 0 ≡ 0
  pub waits : get_or keys' 1 0 ≡ before
  pub gap : get_or keys' 2 0 ≡ between
  pub left : get_or keys' 3 0 ≡ 0
  pub long : length keys' ≡ length keys
  pub others : (i : ℕ) → 4 ≤ i → get_or keys' i 0 ≡ get_or keys i 0

module _ (S : List ℕ) (x y : ℕ) (l : 4 ≤ length S) where
  abbrev A : List ℕ
  A = set S 0 0

  abbrev B : List ℕ
  B = set A 1 x

  abbrev C : List ℕ
  C = set B 2 y

  pub empty_second : 1 < length A
  empty_second = omega (arith, length-set S 0 0)

  pub empty_third : 2 < length B
  empty_third = omega (arith, length-set S 0 0, length-set A 1 x)

  pub empty_fourth : 3 < length C
  empty_fourth = omega (arith, length-set S 0 0, length-set A 1 x, length-set B 2 y)

  pub empty_all : Emptied S x y (set C 3 0)
  empty_all =
      record {
        counts =
            get_or-set_other C 3 0 0 0 (λ e. omega arith)
            ∙ (get_or-set_other B 2 0 y 0 (λ e. omega arith) ∙ (get_or-set_other A 1 0 x 0 (λ e. omega arith) ∙ get_or-set_same S 0 0 0 (omega arith)));
        waits = get_or-set_other C 3 1 0 0 (λ e. omega arith) ∙ (get_or-set_other B 2 1 y 0 (λ e. omega arith) ∙ get_or-set_same A 1 x 0 empty_second);
        gap = get_or-set_other C 3 2 0 0 (λ e. omega arith) ∙ get_or-set_same B 2 y 0 empty_third;
        left = get_or-set_same C 3 0 0 empty_fourth;
        long = omega (arith, length-set S 0 0, length-set A 1 x, length-set B 2 y, length-set C 3 0);
        others = λ i l.
            get_or-set_other C 3 i 0 0 (λ e. omega arith)
            ∙ (get_or-set_other B 2 i y 0 (λ e. omega arith) ∙ (get_or-set_other A 1 i x 0 (λ e. omega arith) ∙ get_or-set_other S 0 i 0 0 (λ e. omega arith)));
      }

pub ruleset emptying = (empty_second, empty_third, empty_fourth, empty_all, rules)

-- ---- what `window` shows: p is the least place of a key named twice in a list, or the limit

pub record Least (xs : List Named) (p : ℕ) : Type 0 where
  pub top : p ≤ limit
  pub is : p < limit → Twice p xs
  pub least : (q : ℕ) → Twice q xs → p ≤ q

pub record Seen (doc : List ℕ) (ks : List Named) (keys : List ℕ) (i j p : ℕ) : Type 0 where
  pub filed : Filed doc ks keys
  pub left : get_or keys 3 0 ≡ count (drop half (drop j ks))
  pub least : Least (windows half i j ks) p

pub record Asking (doc : List ℕ) (ks : List Named) (keys : List ℕ) (i j : ℕ) : Type 0 where
  pub filed : Filed doc ks keys
  pub apart : i + half ≤ j
  pub low : j ≤ limit

-- the log of a room is its front
front : (S : List ℕ) (i : ℕ) → i < log → get_or (take log S) i 0 ≡ get_or S i 0
front S i l = get_or-take log S i 0 l

module _ (doc : List ℕ) (ks : List Named) (keys : List ℕ) (i j : ℕ) (a : Asking doc ks keys i j) where
  pub asking_sum : i + half ≤ j
  asking_sum = a.apart

  pub asking_low : i ≤ limit
  asking_low = omega (arith, a.apart, a.low)

  pub asking_four : 4 ≤ length keys
  asking_four = omega (arith, a.filed.roomed.long)

  pub asking_short : length doc ≤ limit
  asking_short = a.filed.roomed.short

  module _ (g : ℕ) (e : g ≡ j - (i + half)) (keys' : List ℕ) (x : Emptied keys i g keys') (keys'' : List ℕ) (o : Logged deepest doc keys' keys'') where
    long' : length keys' ≡ large
    long' = x.long ∙ a.filed.roomed.long

    mode' : get_or keys' mode 0 ≡ 0
    mode' = x.others mode (omega arith) ∙ a.filed.mode

    emptied_same : SameFilter keys keys'
    emptied_same = record { long = x.long; between = λ i l m. x.others i (omega arith); above = λ i l. x.others i (omega arith) }

    room : Room (take log keys') half 0 i g 0
    room =
        record {
          long = length-take-le log keys' (omega (arith, long'));
          counts = front keys' 0 (omega arith) ∙ x.counts;
          waits = front keys' 1 (omega arith) ∙ x.waits;
          between = front keys' 2 (omega arith) ∙ x.gap;
          left = front keys' 3 (omega arith) ∙ x.left;
        }

    kept : Kept doc 0 (keys_of doc) (length doc) keys' keys''
    kept = rw (keys_of_lem doc a.filed.roomed.tree a.filed.roomed.is) (o.logged a.filed.roomed.tree a.filed.roomed.is)

    listed : Listed keys' (keys_of doc) keys''
    listed = took_listed (keys_of doc) kept.log kept.lie long' mode'

    same : list_of doc keys' ≡ ks
    same = same_sift emptied_same (keys_of doc) ∙ a.filed.list

    held : Windowed doc (take log keys'') ks half i j
    held =
        windowed doc (take log keys') (take log keys'') ks half i j g room (omega arith) (omega arith) (omega (arith, a.apart)) a.filed.roomed.short
        (listed.log ∙ ap (noteds (take log keys')) same)
        (filed_lie doc ks keys a.filed)

    pub asking_prefix : length (take log keys'') ≡ log
    asking_prefix = held.long

    pub asking_placed : Placed doc (take log keys'') (get_or (take log keys'') 0 0)
    asking_placed = holds_placed doc (take log keys'') (windows half i j ks) held.holds

    filed : Filed doc ks keys''
    filed =
        record {
          roomed = roomed_on doc keys' keys'' (roomed_on doc keys keys' a.filed.roomed x.long) listed.same.long;
          mode = listed.same.between mode (omega arith) (omega arith) ∙ mode';
          list = same_sift listed.same (keys_of doc) ∙ same;
        }

    left : get_or keys'' 3 0 ≡ count (drop half (drop j ks))
    left = sym (front keys'' 3 (omega arith)) ∙ held.left

    module _ (r : Option ℕ) (t : Told doc (take log keys'') r) where
      names : Names (λ p. Twice p (windows half i j ks)) r
      names = holds_told doc (take log keys'') (windows half i j ks) held.holds r t

      asking_found : (p : ℕ) → r ≡ Some p → Seen doc ks keys'' i j p
      asking_found p f =
          let n : LeastOf (λ p. Twice p (windows half i j ks)) p = rw f at names in
          let l = twice_low doc (windows half i j ks) held.holds.lie a.filed.roomed.short n.is in
          record { filed = filed; left = left; least = record { top = omega arith; is = λ m. n.is; least = n.least } }

      asking_none : r ≡ None → Seen doc ks keys'' i j limit
      asking_none f =
          let n : (q : ℕ) → Twice q (windows half i j ks) → ⊥ = rw f at names in
          record { filed = filed; left = left; least = record { top = omega arith; is = λ m. absurd (omega arith); least = λ q y. absurd (n q y) } }

      pub asking_seen : (p : ℕ) → p ≡ unwrap_or r limit → Seen doc ks keys'' i j p
      asking_seen p e = rw e (by r refl)
        where
          by : (s : Option ℕ) → r ≡ s → Seen doc ks keys'' i j (unwrap_or s limit)
          by (Some q) f = asking_found q f
          by None f = asking_none f

pub ruleset asking = (asking_sum, asking_low, asking_four, asking_short, asking_prefix, asking_placed, asking_seen, rules)

-- ---- what `across` shows: half a log from the j-th key on is looked through beside every half before it

-- no key before the j-th is named twice
pub record Sweeping (doc : List ℕ) (ks : List Named) (keys : List ℕ) (j : ℕ) : Type 0 where
  pub filed : Filed doc ks keys
  pub some : 0 < j
  pub low : j ≤ limit
  pub whole : j % half ≡ 0
  pub clean : (q : ℕ) → Twice q (take j ks) → ⊥

pub record Crossed (doc : List ℕ) (ks : List Named) (keys : List ℕ) (j p : ℕ) : Type 0 where
  pub filed : Filed doc ks keys
  pub whole : j % half ≡ 0
  pub left : get_or keys 3 0 ≡ count (drop half (drop j ks))
  pub least : Least (take (j + half) ks) p

-- .. so far, beside those before the i-th
pub record Crossing (doc : List ℕ) (ks : List Named) (keys : List ℕ) (j i p : ℕ) : Type 0 where
  pub sweeping : Sweeping doc ks keys j
  pub whole : i % half ≡ 0
  pub first : i ≤ j
  pub top : p ≤ limit
  pub is : p < limit → Twice p (take (j + half) ks)
  pub early : (q r a : ℕ) (s : List ℕ) → In r a s (take i ks) → In r q s (take half (drop j ks)) → p ≤ q
  pub own : 0 < i → (q : ℕ) → Twice q (take half (drop j ks)) → p ≤ q
  pub left : 0 < i → get_or keys 3 0 ≡ count (drop half (drop j ks))

-- two halves are part of what stands before the end of the later one
windows_before : (i j g : ℕ) (ks : List Named) → i + half + g ≡ j → {p : ℕ} → Twice p (windows half i j ks) → Twice p (take (j + half) ks)
windows_before i j g ks e {p} x = rw (take-add j half ks) (by (twice_split B W x))
  where
    B : List Named
    B = take half (drop i ks)

    W : List Named
    W = take half (drop j ks)

    J : List Named
    J = take j ks

    is : J ≡ (take i ks ++ B) ++ take g (drop (i + half) ks)
    is = ap (λ (n : ℕ). take n ks) (sym e) ∙ (take-add (i + half) g ks ∙ ap (λ (l : List Named). l ++ take g (drop (i + half) ks)) (take-add i half ks))

    by : Split p B W → Twice p (J ++ W)
    by (in_first y) = twice_left J W (subst (Twice p) (sym is) (twice_left (take i ks ++ B) _ (twice_right (take i ks) B y)))
    by (in_second y) = twice_right J W y
    by (across r a s y z) = twice_across J W (subst (In r a s) (sym is) (in_left (take i ks ++ B) _ (in_right (take i ks) B y))) z

module _ (doc : List ℕ) (ks : List Named) (j : ℕ) where
  pub crossing_first : (keys : List ℕ) → Sweeping doc ks keys j → Crossing doc ks keys j 0 limit
  crossing_first keys x =
      record {
        sweeping = x;
        whole = refl;
        first = omega arith;
        top = omega arith;
        is = λ l. absurd (omega arith);
        early = λ q r a s y z. elim y [ ];
        own = λ l. absurd (omega arith);
        left = λ l. absurd (omega arith);
      }

  module _ (keys : List ℕ) (k p : ℕ) (x : Crossing doc ks keys j (k * half) p) where
    pub crossing_asking : k < j / half → Asking doc (list_of doc keys) keys (k * half) j
    crossing_asking l = record { filed = filed_own doc ks keys x.sweeping.filed; apart = omega (arith, x.sweeping.whole); low = x.sweeping.low }

    module _ (l : k < j / half) (keys' : List ℕ) (b : ℕ) (seen : Seen doc (list_of doc keys) keys' (k * half) j b) (p' : ℕ) (z : p' ≡ min b p) where
      y : Seen doc ks keys' (k * half) j b
      y = subst (λ (l : List Named). Seen doc l keys' (k * half) j b) x.sweeping.filed.list seen

      is : p' < limit → Dec (p' ≡ p) → Twice p' (take (j + half) ks)
      is m (yes e) = rw e (x.is (omega arith))
      is m (no n) =
          let e : p' ≡ b = omega arith in
          rw e (windows_before (k * half) j (j - (k * half + half)) ks (omega (arith, x.sweeping.whole)) (y.least.is (omega arith)))

      early : (q r a : ℕ) (s : List ℕ) → In r a s (take (k * half) ks) ⊎ In r a s (take half (drop (k * half) ks)) → In r q s (take half (drop j ks)) → p' ≤ q
      early q r a s (inl u) v = let w = x.early q r a s u v in omega arith
      early q r a s (inr u) v = let w = y.least.least q (twice_across (take half (drop (k * half) ks)) (take half (drop j ks)) u v) in omega arith

      more : Crossing doc ks keys' j (k * half + half) p'
      more =
          record {
            sweeping = record { filed = y.filed; some = x.sweeping.some; low = x.sweeping.low; whole = x.sweeping.whole; clean = x.sweeping.clean };
            whole = omega arith;
            first = omega (arith, x.sweeping.whole);
            top = omega (arith, x.top);
            is = λ m. is m (ℕ_discrete p' p);
            early = λ q r a s u v. early q r a s (in_split (take (k * half) ks) (take half (drop (k * half) ks)) (subst (In r a s) (take-add (k * half) half ks) u)) v;
            own = λ m q t. let w = y.least.least q (twice_right (take half (drop (k * half) ks)) (take half (drop j ks)) t) in omega arith;
            left = λ m. y.left;
          }

      pub crossing_more : Crossing doc ks keys' j ((k + 1) * half) p'
      crossing_more = let e : k * half + half ≡ (k + 1) * half = omega arith in subst (λ (i : ℕ). Crossing doc ks keys' j i p') e more

    pub crossing_done : j / half ≤ k → Crossed doc ks keys j p
    crossing_done l =
        record {
          filed = x.sweeping.filed;
          whole = x.sweeping.whole;
          left = x.left (omega (arith, x.sweeping.some, x.sweeping.whole));
          least = record { top = x.top; is = x.is; least = λ q t. by q (twice_split (take j ks) (take half (drop j ks)) (subst (Twice q) (take-add j half ks) t)) };
        }
      where
        e : k * half ≡ j
        e = omega (arith, x.first, x.sweeping.whole)

        by : (q : ℕ) → Split q (take j ks) (take half (drop j ks)) → p ≤ q
        by q (in_first t) = absurd (x.sweeping.clean q t)
        by q (in_second t) = x.own (omega (arith, x.sweeping.some)) q t
        by q (across r a s u v) = x.early q r a s (rw e u) v

pub ruleset crossing = (crossing_first, crossing_asking, crossing_more, crossing_done, rules)

-- ---- what `behind` and `listed` show

abbrev pub Doubled : List Named → Option ℕ → Type 0
Doubled ks r = Names (λ p. Twice p ks) r

pub sweeping_own : (doc : List ℕ) (ks : List Named) (keys : List ℕ) (j : ℕ) → Sweeping doc ks keys j → Sweeping doc (list_of doc keys) keys j
sweeping_own doc ks keys j x =
    record { filed = filed_own doc ks keys x.filed; some = x.some; low = x.low; whole = x.whole; clean = λ q t. x.clean q (rw x.filed.list at t) }

module _ (doc : List ℕ) (ks : List Named) (keys : List ℕ) (j : ℕ) (s : Sweeping doc ks keys j) (p : ℕ) (keys' : List ℕ) (own : Crossed doc (list_of doc keys) keys' j p) where
  x : Crossed doc ks keys' j p
  x = subst (λ (l : List Named). Crossed doc l keys' j p) s.filed.list own

  lies : Keys doc 0 ks (length doc)
  lies = filed_lie doc ks keys' x.filed

  pub behind_found : p < limit → Doubled ks (Some p)
  behind_found l = prefix_least doc ks lies x.filed.roomed.short (j + half) p (x.least.is l) x.least.least

  module _ (l : limit ≤ p) where
    none : (q : ℕ) → Twice q (take (j + half) ks) → ⊥
    none q t =
        let y = subst (Twice q) (take-append-drop (j + half) ks) (twice_left (take (j + half) ks) (drop (j + half) ks) t) in
        omega (arith, x.least.least q t, twice_low doc ks lies x.filed.roomed.short y)

    pub behind_none : (n : ℕ) → n ≡ get_or keys' 3 0 → n < 1 → Doubled ks None
    behind_none n e z q t = none q (rw (take_whole j half ks (omega (arith, x.left))) t)

    module _ (n : ℕ) (e : n ≡ get_or keys' 3 0) (f : 1 ≤ n) where
      further : j + half ≤ limit
      further =
          let d = drops_count j half ks (omega (arith, x.left)) in
          let c = keys_count ks lies in
          omega (arith, x.filed.roomed.short)

      pub behind_low : j + half ≤ limit
      behind_low = further

      pub behind_less : limit - (j + half) < limit - j
      behind_less = let g = further in omega arith

      pub behind_on : Sweeping doc ks keys' (j + half)
      behind_on = record { filed = x.filed; some = omega arith; low = further; whole = omega (arith, x.whole); clean = none }

pub behind_room : (doc : List ℕ) (ks : List Named) (keys : List ℕ) (j p : ℕ) → Crossed doc ks keys j p → 3 < length keys
behind_room doc ks keys j p x = omega (arith, x.filed.roomed.long)

pub ruleset going = (sweeping_own, behind_found, behind_none, behind_low, behind_less, behind_on, behind_room, rules)

-- ---- what `listed` shows: the first two halves, and those behind

pub listed_asking : (doc keys : List ℕ) → Filed doc (list_of doc keys) keys → Asking doc (list_of doc keys) keys 0 half
listed_asking doc keys x = record { filed = x; apart = omega arith; low = omega arith }

module _ (doc : List ℕ) (ks : List Named) (p : ℕ) (keys : List ℕ) (y : Seen doc ks keys 0 half p) where
  first_lie : Keys doc 0 ks (length doc)
  first_lie = filed_lie doc ks keys y.filed

  first_least : Least (take (half + half) ks) p
  first_least = rw (take-add half half ks) y.least

  pub listed_room : 3 < length keys
  listed_room = omega (arith, y.filed.roomed.long)

  pub listed_found : p < limit → Doubled ks (Some p)
  listed_found l = prefix_least doc ks first_lie y.filed.roomed.short (half + half) p (first_least.is l) first_least.least

  module _ (l : limit ≤ p) where
    first_none : (q : ℕ) → Twice q (take (half + half) ks) → ⊥
    first_none q t =
        let v = subst (Twice q) (take-append-drop (half + half) ks) (twice_left (take (half + half) ks) (drop (half + half) ks) t) in
        omega (arith, first_least.least q t, twice_low doc ks first_lie y.filed.roomed.short v)

    pub listed_none : (n : ℕ) → n ≡ get_or keys 3 0 → n < 1 → Doubled ks None
    listed_none n e z q t = first_none q (rw (take_whole half half ks (omega (arith, y.left))) t)

    pub listed_behind : Sweeping doc (list_of doc keys) keys 3280
    listed_behind =
        record {
          filed = filed_own doc ks keys y.filed;
          some = omega arith;
          low = omega arith;
          whole = refl;
          clean = λ q t. first_none q (rw y.filed.list at t);
        }

    pub listed_all : (r : Option ℕ) → Doubled (list_of doc keys) r → Doubled ks r
    listed_all r d = rw y.filed.list at d

pub ruleset listing = (listed_asking, listed_room, listed_found, listed_none, listed_behind, listed_all, rules)
