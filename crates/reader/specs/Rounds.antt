-- ROUNDS OF SIEVING: after each, the filter keeps every key that comes twice; so the first that is named twice among those that pass is the first of all. Assumes nothing.
use Rattle.std.specs.Prelude.{◌≡◌, refl, List, [], true, ◌⊎◌, ℕ, ◌+◌, ◌-◌, ◌/◌, ◌≤◌, ◌<◌, length, get_or, set, replicate, take, drop, ◌++◌}
use Rattle.std.proofs.Common.{sym, ap, subst, ◌∙◌, inl, inr, arith, length-set, get_or-set_same, get_or-set_other, get_or-take, length-take-le, length-append, length-drop, rules}
use Rattle.notes.specs.Lie.{Keys}
use Rattle.std.proofs.lemmas.List.{length-replicate, get_or-replicate, get_or-append_right, get_or_append_left, get_or-drop}
use Rattle.std.specs.List.{CopiedTo, SameBelow}
use borrow.Author.Tests.{eq-eqb, ne_eqb}
use Rattle.exact.specs.Verdict.{acc}
use Rattle.language.specs.Tree.{Tree, Repeats}
use Rattle.language.specs.Answered.{limit, deepest}
use Rattle.blocks.specs.Document.{verdict}
use Rattle.notes.specs.Flat.{Named, flat}
use Rattle.notes.specs.Notes.{Kept}
use Rattle.notes.specs.Handed.{mode, round, key_class, passing}
use Rattle.sieve.specs.Bits.{On}
use Rattle.sieve.specs.Sieve.{hits, broken, list_at, again, filter, large, class_low, Sieved}
use Rattle.std.specs.Prelude.{Option}
use Rattle.std.specs.declared.option.Option.TheVariants.{None}
use Rattle.repeats.specs.Later.{Names, names_map, zeros}
use Rattle.places.specs.Chosen.{some_twice}
use Rattle.places.specs.Sifted.{sift_some, Both, both_double, Claims, twice_sifted, twice_both, took_sown}
use Rattle.places.specs.Log.{names_tree}
use Rattle.judge.specs.Contract.{Logged}
use Rattle.reader.specs.Windows.{keys_of, keys_of_lem, list_of, Roomed, roomed_on, Filed, Doubled}

-- ---- a sieve with nothing in it

-- the words between are zero, but for the one that says whether there are lists
pub record Cleared (keys : List ℕ) : Type 0 where
  pub zero : (i : ℕ) → hits ≤ i → i < filter → (i ≡ broken → ⊥) → get_or keys i 0 ≡ 0

pub cleared_sieved : (keys : List ℕ) → Cleared keys → Sieved [] keys
cleared_sieved keys x =
    record {
      found = λ q h d. elim d [ ];
      whole = λ e.
          record {
            low = λ q h i. elim i [ ];
            below = λ d l. let z = x.zero (list_at d) (omega arith) (omega arith) (λ z. omega arith) in omega arith;
            apart = λ d e l m f g. let z = x.zero (list_at d) (omega arith) (omega arith) (λ z. omega arith) in absurd (omega arith);
            few = λ d l. let z = x.zero (list_at d + 1) (omega arith) (omega arith) (λ z. omega arith) in omega arith;
            noted = λ d q h l i f. elim i [ ];
          };
      plain = λ e q h i. elim i [ ];
    }

-- ---- before and after a pass that sieves

-- the filter keeps what comes twice, and the sieve is empty
pub record Sieving (doc keys : List ℕ) (r : ℕ) : Type 0 where
  pub roomed : Roomed doc keys
  pub mode : get_or keys mode 0 ≡ 1
  pub round : get_or keys round 0 ≡ r
  pub claims : Claims keys (keys_of doc)
  pub empty : Cleared keys

-- what comes twice is found again by the next round's hash
pub record Swept (doc keys : List ℕ) (r : ℕ) : Type 0 where
  pub roomed : Roomed doc keys
  pub found : (q : ℕ) (s : List ℕ) → Both q s (keys_of doc) → On keys again (key_class r q s) × (0 < get_or keys hits 0)

module _ (doc keys : List ℕ) (r : ℕ) (x : Sieving doc keys r) where
  pub sieving_short : length doc ≤ limit
  sieving_short = x.roomed.short

  pub sieving_swept : (keys' : List ℕ) → Logged deepest doc keys keys' → Swept doc keys' (r + 1)
  sieving_swept keys' o =
      let t = x.roomed.tree in
      let k : Kept doc 0 (keys_of doc) (length doc) keys keys' = rw (keys_of_lem doc t x.roomed.is) (o.logged t x.roomed.is) in
      let w = took_sown [] (keys_of doc) k.log k.lie x.roomed.long (λ e. omega (arith, x.mode)) (cleared_sieved keys x.empty) in
      record {
        roomed = roomed_on doc keys keys' x.roomed w.same.long;
        found = λ q s b.
            let d = both_double keys q s (x.claims.claim q s b) [] (keys_of doc) b in
            rw x.round at (w.sieved.found q _ d);
      }

-- ---- the filter is what was found again

pub record Turned (keys : List ℕ) (r m : ℕ) (keys' : List ℕ) : Type 0 where
  pub long : length keys' ≡ length keys
  pub mode : get_or keys' mode 0 ≡ m
  pub round : get_or keys' round 0 ≡ r
  pub words : (i : ℕ) → i < 4096 → get_or keys' (filter + i) 0 ≡ get_or keys (again + i) 0
  pub empty : Cleared keys'

-- keys are noted, and the filter keeps what comes twice
pub record Listing (doc keys : List ℕ) : Type 0 where
  pub filed : Filed doc (list_of doc keys) keys
  pub claims : Claims keys (keys_of doc)

module _ (doc keys : List ℕ) (r m : ℕ) (l : 0 < r) (x : Swept doc keys r) (keys' : List ℕ) (y : Turned keys r m keys') where
  claimed : (q : ℕ) (s : List ℕ) → Both q s (keys_of doc) → passing keys' q s ≡ true
  unfolding passing On
  claimed q s b =
      let f = (x.found q s b).0 in
      let w = y.words (key_class r q s / 32) (class_low _) in
      rw (y.round, ne_eqb r 0 (λ e. omega arith), w) (eq-eqb _ 1 f)

  turned_claims : Claims keys' (keys_of doc)
  turned_claims = record { claim = claimed }

  pub turned_roomed : Roomed doc keys'
  turned_roomed = roomed_on doc keys keys' x.roomed y.long

  pub turned_sieving : m ≡ 1 → Sieving doc keys' r
  turned_sieving e = record { roomed = turned_roomed; mode = y.mode ∙ e; round = y.round; claims = turned_claims; empty = y.empty }

  pub turned_listing : m ≡ 0 → Listing doc keys'
  turned_listing e = record { filed = record { roomed = turned_roomed; mode = y.mode ∙ e; list = refl }; claims = turned_claims }

-- the first key among those that pass is the first of all
pub listing_doubled : (doc keys : List ℕ) (r : Option ℕ) → Listing doc keys → Doubled (list_of doc keys) r → Doubled (keys_of doc) r
listing_doubled doc keys r x d = names_map (λ p t. some_twice (sift_some keys (keys_of doc)) t) (λ p t. twice_sifted keys (keys_of doc) x.claims t) r d

-- nothing was found again, so nothing comes twice
pub swept_none : (doc keys : List ℕ) (r n : ℕ) → Swept doc keys r → n ≡ get_or keys hits 0 → n < 1 → Doubled (keys_of doc) None
swept_none doc keys r n x e l q t = let y = twice_both t in omega (arith, (x.found y.object y.text y.both).1)

pub swept_room : (doc keys : List ℕ) (r : ℕ) → Swept doc keys r → hits < length keys
swept_room doc keys r x = omega (arith, x.roomed.long)

pub swept_long : (doc keys : List ℕ) (r : ℕ) → Swept doc keys r → length keys ≡ large
swept_long doc keys r x = x.roomed.long

-- ---- what `copied`, `cleared` and `turn` show

pub record Copied (keys : List ℕ) (n : ℕ) (keys' : List ℕ) : Type 0 where
  pub long : length keys' ≡ length keys
  pub below : (i : ℕ) → i < filter → get_or keys' i 0 ≡ get_or keys i 0
  pub words : (i : ℕ) → i < n → get_or keys' (filter + i) 0 ≡ get_or keys (again + i) 0

pub copied_within : (S T : List ℕ) → length T ≡ length S → CopiedTo S T again filter 4096 → SameBelow S T filter → Copied S 4096 T
copied_within S T l c b = record { long = l; below = λ i m. b i 0 m; words = λ i m. c (filter + i) 0 (omega arith) (omega arith) ∙ ap (λ (k : ℕ). get_or S k 0) (behind i) }
  where
    behind : (i : ℕ) → again + (filter + i - filter) ≡ again + i
    behind i = omega arith

pub record Wiped (keys : List ℕ) (n : ℕ) (keys' : List ℕ) : Type 0 where
  pub long : length keys' ≡ length keys
  pub zero : (i : ℕ) → hits ≤ i → i < n → get_or keys' i 0 ≡ 0
  pub others : (i : ℕ) → (i < hits) ⊎ (filter ≤ i) → get_or keys' i 0 ≡ get_or keys i 0

-- the words of a part are zero, and the others are as they were
module _ (S ys : List ℕ) (h k n : ℕ) (l : h + k ≤ length S) (e : ys ≡ replicate n 0) (m : n ≡ k) where
  front : length (take h S) ≡ h
  front = length-take-le h S (omega arith)

  many : length ys ≡ k
  many = ap length e ∙ (length-replicate {A = ℕ} n 0 ∙ m)

  filled_long : length (take h S ++ (ys ++ drop k (drop h S))) ≡ length S
  filled_long = omega (arith, length-append (take h S) (ys ++ drop k (drop h S)), length-append ys (drop k (drop h S)), front, many, length-drop k (drop h S), length-drop h S)

  filled_zero : (i : ℕ) → h ≤ i → i < h + k → get_or (take h S ++ (ys ++ drop k (drop h S))) i 0 ≡ 0
  filled_zero i a b =
      get_or-append_right (take h S) (ys ++ drop k (drop h S)) h i 0 front a
      ∙ (get_or_append_left ys (drop k (drop h S)) 0 (i - h) (omega (arith, many)) ∙ (ap (λ (y : List ℕ). get_or y (i - h) 0) e ∙ get_or-replicate n (i - h) 0 0 (omega arith)))

  filled_before : (i : ℕ) → i < h → get_or (take h S ++ (ys ++ drop k (drop h S))) i 0 ≡ get_or S i 0
  filled_before i a = get_or_append_left (take h S) (ys ++ drop k (drop h S)) 0 i (omega (arith, front)) ∙ get_or-take h S i 0 a

  filled_behind : (i : ℕ) → h + k ≤ i → get_or (take h S ++ (ys ++ drop k (drop h S))) i 0 ≡ get_or S i 0
  filled_behind i a =
      let j : h + (k + (i - h - k)) ≡ i = omega arith in
      get_or-append_right (take h S) (ys ++ drop k (drop h S)) h i 0 front (omega arith)
      ∙ (get_or-append_right ys (drop k (drop h S)) k (i - h) 0 many (omega arith)
      ∙ (get_or-drop k (drop h S) (i - h - k) 0 ∙ (get_or-drop h S (k + (i - h - k)) 0 ∙ ap (λ (x : ℕ). get_or S x 0) j)))

pub wiped_filled : (S ys : List ℕ) (n : ℕ) → length S ≡ large → ys ≡ replicate n 0 → n ≡ 8810 → Wiped S filter (take hits S ++ (ys ++ drop 8810 (drop hits S)))
wiped_filled S ys n l e m =
    record {
      long = filled_long S ys hits 8810 n (omega arith) e m;
      zero = λ i a b. filled_zero S ys hits 8810 n (omega arith) e m i a (omega arith);
      others = λ i o. by i o;
    }
  where
    by : (i : ℕ) → (i < hits) ⊎ (filter ≤ i) → get_or (take hits S ++ (ys ++ drop 8810 (drop hits S))) i 0 ≡ get_or S i 0
    by i (inl a) = filled_before S ys hits 8810 n (omega arith) e m i a
    by i (inr a) = filled_behind S ys hits 8810 n (omega arith) e m i (omega arith)

module _ (S : List ℕ) (e : length S ≡ large) (A : List ℕ) (x : Copied S 4096 A) (B : List ℕ) (y : Wiped A filter B) (r m : ℕ) where
  pub turn_round : round < length B
  turn_round = omega (arith, x.long, y.long)

  pub turn_mode : mode < length (set B round r)
  turn_mode = omega (arith, x.long, y.long, length-set B round r)

  abbrev D : List ℕ
  D = set (set B round r) mode m

  D-long : length D ≡ length S
  D-long = length-set (set B round r) mode m ∙ (length-set B round r ∙ (y.long ∙ x.long))

  pub turn_broken : broken < length (set (set B round r) mode m)
  turn_broken = omega (arith, D-long)

  pub turn_same : length (set (set (set B round r) mode m) broken 2) ≡ length S
  turn_same = length-set D broken 2 ∙ D-long

  pub turn_done : Turned S r m (set (set (set B round r) mode m) broken 2)
  turn_done =
      let C = set B round r in
      let p : (i : ℕ) → (i ≡ broken → ⊥) → get_or (set D broken 2) i 0 ≡ get_or D i 0 = λ i f. get_or-set_other D broken i 2 0 f in
      let o : (i : ℕ) → (i ≡ broken → ⊥) → (i ≡ mode → ⊥) → (i ≡ round → ⊥) → get_or (set D broken 2) i 0 ≡ get_or B i 0 = λ i e f g. p i e ∙ (get_or-set_other C mode i m 0 f ∙ get_or-set_other B round i r 0 g) in
      record {
        long = turn_same;
        mode = p mode (λ z. omega arith) ∙ get_or-set_same C mode m 0 turn_mode;
        round = p round (λ z. omega arith) ∙ (get_or-set_other C mode round m 0 (λ z. omega arith) ∙ get_or-set_same B round r 0 turn_round);
        words = λ i l. o (filter + i) (λ z. omega arith) (λ z. omega arith) (λ z. omega arith) ∙ (y.others (filter + i) (inr (omega arith)) ∙ x.words i l);
        empty = record { zero = λ i k l n. o i n (λ z. omega arith) (λ z. omega arith) ∙ y.zero i k l };
      }

pub turn_copied : (S A : List ℕ) → length S ≡ large → Copied S 4096 A → length A ≡ large
turn_copied S A e x = x.long ∙ e

pub ruleset turning = (turn_round, turn_mode, turn_broken, turn_same, turn_done, turn_copied, rules)

-- ---- the first round: all keys pass

all_pass : (S : List ℕ) (q : ℕ) (s : List ℕ) → get_or S round 0 ≡ 0 → passing S q s ≡ true
unfolding passing
all_pass S q s z = rw (eq-eqb (get_or S round 0) 0 z) refl

pub first_sieving : (doc : List ℕ) (t : Tree) → length doc ≤ limit → verdict deepest doc ≡ acc t → (keys : List ℕ) → Kept doc 0 (flat 0 0 t) (length doc) (set (replicate large 0) mode 1) keys
    → Sieving doc (set (replicate large 0) mode 1) 0
first_sieving doc t l e keys k =
    let S : List ℕ = replicate large 0 in
    let n = length-replicate {A = ℕ} large 0 in
    let o : (i : ℕ) → (i ≡ mode → ⊥) → get_or (set S mode 1) i 0 ≡ 0 = λ i f. get_or-set_other S mode i 1 0 f ∙ zeros large i in
    record {
      roomed =
          record {
            tree = t;
            short = l;
            is = e;
            lie = subst (λ (ks : List Named). Keys doc 0 ks (length doc)) (sym (keys_of_lem doc t e)) k.lie;
            long = length-set S mode 1 ∙ n;
          };
      mode = get_or-set_same S mode 1 0 (omega arith);
      round = o round (λ z. omega arith);
      claims = record { claim = λ q s b. all_pass (set S mode 1) q s (o round (λ z. omega arith)) };
      empty = record { zero = λ i m p n. o i (λ z. omega arith) };
    }

-- ---- what the tree repeats

abbrev pub Repeated : List ℕ → Option ℕ → Type 0
Repeated doc r = (t : Tree) → verdict deepest doc ≡ acc t → Names (λ p. Repeats p t) r

pub doubled_repeated : (doc : List ℕ) (r : Option ℕ) → Doubled (keys_of doc) r → Repeated doc r
doubled_repeated doc r x t e = names_tree t r (rw (keys_of_lem doc t e) at x)

-- ---- what `settled` and `sifted` show

module _ (doc keys : List ℕ) (r : ℕ) (x : Swept doc keys r) (l : 0 < r) (keys' : List ℕ) (y : Turned keys r 0 keys') where
  listing : Listing doc keys'
  listing = turned_listing doc keys r 0 l x keys' y refl

  pub settled_filed : Filed doc (list_of doc keys') keys'
  settled_filed = listing.filed

  pub settled_doubled : (a : Option ℕ) → Doubled (list_of doc keys') a → Doubled (keys_of doc) a
  settled_doubled a d = listing_doubled doc keys' a listing d

pub ruleset settling = (swept_long, settled_filed, settled_doubled, rules)

pub sifted_sieving : (doc keys : List ℕ) (r : ℕ) → Swept doc keys r → 0 < r → (keys' : List ℕ) → Turned keys r 1 keys' → Sieving doc keys' r
sifted_sieving doc keys r x l keys' y = turned_sieving doc keys r 1 l x keys' y refl

pub ruleset sifting = (swept_none, swept_room, swept_long, sifted_sieving, rules)
