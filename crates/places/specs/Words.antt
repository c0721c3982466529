-- THE WORDS OF A LOG: the keys that it takes stand there one behind another, and are counted; so are those that it has no room for. Assumes nothing.
use Rattle.std.specs.Prelude.{◌≡◌, ℕ, zero, suc, ◌+◌, ◌-◌, ◌*◌, ◌/◌, ◌%◌, ◌<◌, ◌≤◌, Bool, true, false, List, [], ◌∷◌, length, ◌==◌, ◌≢◌, slice_index, slice_index_or, slice_set}
use Rattle.std.proofs.Math.Path.{refl}
use Rattle.std.proofs.Common.{sym, subst, ◌∙◌, add-zero, length-set, get_or-set_same, get_or-set_other}
use native.Mathlib.Omega.{arith}
use Rattle.std.proofs.Math.Decide.{dec_lt}
use borrow.Author.Tests.{lt-leb}
use Rattle.notation.specs.Class.{pick}
use Rattle.language.specs.Tree.{count}
use Rattle.exact.specs.Class.{leb_yes}
use Rattle.notes.specs.Flat.{Named, named}
use Rattle.notes.specs.Noted.{halved, entered, noted, noteds}
use Rattle.places.specs.Chosen.{chosen, chosen_full, left_out}

-- the words from number j up to e are those of the keys
pub data Words (keys : List ℕ) (e : ℕ) : ℕ → List Named → Type 0 where
  words_none : Words keys e e []
  words_more : {j q a : ℕ} {s : List ℕ} {ns : List Named} → slice_index keys (4 + 2 * j) ≡ q → slice_index keys (4 + 2 * j + 1) ≡ a → Words keys e (suc j) ns
      → Words keys e j (named q a s ∷ ns)

-- A ROOM for two halves of h keys: c are noted, w are passed by before the next one, and g once half of it is full; l had no room
pub record Room (S : List ℕ) (h c w g l : ℕ) : Type 0 where
  pub long : length S ≡ 4 + 4 * h
  pub counts : slice_index_or S 0 0 ≡ c
  pub waits : slice_index_or S 1 0 ≡ w
  pub between : slice_index_or S 2 0 ≡ g
  pub left : slice_index_or S 3 0 ≡ l

-- the words of the first c keys
pub record Alike (c : ℕ) (S S' : List ℕ) : Type 0 where
  pub same : (i : ℕ) → 4 ≤ i → i < 4 + 2 * c → slice_index S' i ≡ slice_index S i

alike_then : {b c : ℕ} {S S' S'' : List ℕ} → b ≤ c → Alike b S S' → Alike c S' S'' → Alike b S S''
alike_then l x y = record { same = λ i m n. y.same i m (omega arith) ∙ x.same i m n }

-- ---- a key more

-- a word of the first four is stored
module _ (S : List ℕ) (i v : ℕ) (l : i < 4) (n : 4 ≤ length S) where
  stored_same : slice_index_or (slice_set S i v) i 0 ≡ v
  stored_same = get_or-set_same S i v 0 (omega arith)

  stored_other : (k : ℕ) → (k ≢ i) → slice_index (slice_set S i v) k ≡ slice_index S k
  stored_other k f = get_or-set_other S i k v 0 f

module _ (S : List ℕ) (h c g l q a : ℕ) where
  module _ (w : ℕ) (x : Room S h c (suc w) g l) where
    passed_is : noted S q a ≡ slice_set S 1 w
    unfolding noted
    passed_is =
        let e : suc w - 1 ≡ w = omega arith in
        rw (lt-leb (length S) 3 (omega (arith, x.long)), x.waits, leb_yes 1 (suc w) (omega arith), e) refl

    passed_room : Room (noted S q a) h c w g l
    passed_room =
        rw passed_is
        (record {
          long = length-set S 1 w ∙ x.long;
          counts = stored_other S 1 w (omega arith) (omega (arith, x.long)) 0 (λ e. omega arith) ∙ x.counts;
          waits = stored_same S 1 w (omega arith) (omega (arith, x.long));
          between = stored_other S 1 w (omega arith) (omega (arith, x.long)) 2 (λ e. omega arith) ∙ x.between;
          left = stored_other S 1 w (omega arith) (omega (arith, x.long)) 3 (λ e. omega arith) ∙ x.left;
        })

    passed_alike : Alike c S (noted S q a)
    passed_alike = rw passed_is (record { same = λ i m n. stored_other S 1 w (omega arith) (omega (arith, x.long)) i (λ e. omega arith) })

  module _ (x : Room S h c 0 g l) where
    module _ (f : h + h ≤ c) (low : suc l < 4294967296) where
      full_is : noted S q a ≡ slice_set S 3 (suc l)
      unfolding noted
      full_is =
          let e : (l + 1) % 4294967296 ≡ suc l = omega arith in
          rw (lt-leb (length S) 3 (omega (arith, x.long)), x.waits, x.counts, lt-leb (4 + 2 * c + 2) (length S) (omega (arith, x.long)), x.left, e) refl

      full_room : Room (noted S q a) h c 0 g (suc l)
      full_room =
          rw full_is
          (record {
            long = length-set S 3 (suc l) ∙ x.long;
            counts = stored_other S 3 (suc l) (omega arith) (omega (arith, x.long)) 0 (λ e. omega arith) ∙ x.counts;
            waits = stored_other S 3 (suc l) (omega arith) (omega (arith, x.long)) 1 (λ e. omega arith) ∙ x.waits;
            between = stored_other S 3 (suc l) (omega arith) (omega (arith, x.long)) 2 (λ e. omega arith) ∙ x.between;
            left = stored_same S 3 (suc l) (omega arith) (omega (arith, x.long));
          })

      full_alike : Alike c S (noted S q a)
      full_alike = rw full_is (record { same = λ i m n. stored_other S 3 (suc l) (omega arith) (omega (arith, x.long)) i (λ e. omega arith) })

    module _ (f : c < h + h) (low : suc c < 4294967296) where
      abbrev E : List ℕ
      E = slice_set (slice_set (slice_set S (4 + 2 * c) q) (4 + 2 * c + 1) a) 0 (suc c)

      taken_is : noted S q a ≡ halved E (suc c)
      unfolding noted entered
      taken_is =
          let e : (c + 1) % 4294967296 ≡ suc c = omega arith in
          let d : c + 1 ≡ suc c = omega arith in
          rw (lt-leb (length S) 3 (omega (arith, x.long)), x.waits, x.counts, leb_yes (4 + 2 * c + 2) (length S) (omega (arith, x.long)), e, d) refl

      -- the words of E
      e_long : length E ≡ 4 + 4 * h
      e_long =
          omega (arith, x.long, length-set S (4 + 2 * c) q, length-set (slice_set S (4 + 2 * c) q) (4 + 2 * c + 1) a, length-set (slice_set (slice_set S (4 + 2 * c) q) (4 + 2 * c + 1) a) 0 (suc c))

      e_count : slice_index_or E 0 0 ≡ suc c
      e_count =
          get_or-set_same (slice_set (slice_set S (4 + 2 * c) q) (4 + 2 * c + 1) a) 0 (suc c) 0
          (omega (arith, x.long, length-set S (4 + 2 * c) q, length-set (slice_set S (4 + 2 * c) q) (4 + 2 * c + 1) a))

      e_other : (i : ℕ) → (i ≢ 0) → (i ≢ 4 + 2 * c) → (i ≢ 4 + 2 * c + 1) → slice_index E i ≡ slice_index S i
      e_other i m n o =
          get_or-set_other (slice_set (slice_set S (4 + 2 * c) q) (4 + 2 * c + 1) a) 0 i (suc c) 0 m
          ∙ (get_or-set_other (slice_set S (4 + 2 * c) q) (4 + 2 * c + 1) i a 0 o ∙ get_or-set_other S (4 + 2 * c) i q 0 n)

      e_object : slice_index_or E (4 + 2 * c) 0 ≡ q
      e_object =
          get_or-set_other (slice_set (slice_set S (4 + 2 * c) q) (4 + 2 * c + 1) a) 0 (4 + 2 * c) (suc c) 0 (λ e. omega arith)
          ∙ (get_or-set_other (slice_set S (4 + 2 * c) q) (4 + 2 * c + 1) (4 + 2 * c) a 0 (λ e. omega arith) ∙ get_or-set_same S (4 + 2 * c) q 0 (omega (arith, x.long)))

      e_place : slice_index_or E (4 + 2 * c + 1) 0 ≡ a
      e_place =
          get_or-set_other (slice_set (slice_set S (4 + 2 * c) q) (4 + 2 * c + 1) a) 0 (4 + 2 * c + 1) (suc c) 0 (λ e. omega arith)
          ∙ get_or-set_same (slice_set S (4 + 2 * c) q) (4 + 2 * c + 1) a 0 (omega (arith, x.long, length-set S (4 + 2 * c) q))

      -- half of the room is full, or not
      half_is : halved E (suc c) ≡ pick (suc c == h) (slice_set E 1 g) E
      unfolding halved
      half_is =
          let n : (length E - 4) / 4 ≡ h = omega (arith, e_long) in
          let b : slice_index_or E 2 0 ≡ g = e_other 2 (λ e. omega arith) (λ e. omega arith) (λ e. omega arith) ∙ x.between in
          rw (n, b) refl

      -- what is stored in either way
      record Took (w : ℕ) (T : List ℕ) : Type 0 where
        room : Room T h (suc c) w g l
        object : slice_index_or T (4 + 2 * c) 0 ≡ q
        place : slice_index_or T (4 + 2 * c + 1) 0 ≡ a
        alike : Alike c S T

      took_by : (b : Bool) → Took (pick b g 0) (pick b (slice_set E 1 g) E)
      took_by false =
          record {
            room =
                record {
                  long = e_long;
                  counts = e_count;
                  waits = e_other 1 (λ e. omega arith) (λ e. omega arith) (λ e. omega arith) ∙ x.waits;
                  between = e_other 2 (λ e. omega arith) (λ e. omega arith) (λ e. omega arith) ∙ x.between;
                  left = e_other 3 (λ e. omega arith) (λ e. omega arith) (λ e. omega arith) ∙ x.left;
                };
            object = e_object;
            place = e_place;
            alike = record { same = λ i m n. e_other i (λ e. omega arith) (λ e. omega arith) (λ e. omega arith) };
          }
      took_by true =
          let n : 4 ≤ length E = omega (arith, e_long) in
          let o = stored_other E 1 g (omega arith) n in
          record {
            room =
                record {
                  long = length-set E 1 g ∙ e_long;
                  counts = o 0 (λ e. omega arith) ∙ e_count;
                  waits = stored_same E 1 g (omega arith) n;
                  between = o 2 (λ e. omega arith) ∙ (e_other 2 (λ e. omega arith) (λ e. omega arith) (λ e. omega arith) ∙ x.between);
                  left = o 3 (λ e. omega arith) ∙ (e_other 3 (λ e. omega arith) (λ e. omega arith) (λ e. omega arith) ∙ x.left);
                };
            object = o (4 + 2 * c) (λ e. omega arith) ∙ e_object;
            place = o (4 + 2 * c + 1) (λ e. omega arith) ∙ e_place;
            alike = record { same = λ i m n. o i (λ e. omega arith) ∙ e_other i (λ e. omega arith) (λ e. omega arith) (λ e. omega arith) };
          }

      took : Took (pick (suc c == h) g 0) (noted S q a)
      took = rw (taken_is, half_is) (took_by (suc c == h))

-- ---- keys one after another

-- .. the keys xs more are noted, and n had no room
pub record Counted (S : List ℕ) (h c l : ℕ) (xs : List Named) (n : ℕ) (S' : List ℕ) : Type 0 where
  pub long : length S' ≡ 4 + 4 * h
  pub counts : slice_index_or S' 0 0 ≡ c + count xs
  pub left : slice_index_or S' 3 0 ≡ l + n
  pub words : Words S' (c + count xs) c xs
  pub alike : Alike c S S'

pub noteds_counted : (S : List ℕ) (h g w c l : ℕ) (ks : List Named) → Room S h c w g l → h + h < 4294967296 → l + count ks < 4294967296
    → Counted S h c l (chosen h g w c ks) (left_out h g w c ks) (noteds S ks)
unfolding noteds chosen left_out
noteds_counted S h g w c l [] x m n =
    record { long = x.long; counts = x.counts ∙ sym (add-zero c); left = x.left ∙ sym (add-zero l); words = rw (add-zero c) words_none; alike = record { same = λ i m n. refl } }
noteds_counted S h g (suc w) c l (named q a s ∷ ks) x m n =
    let y = noteds_counted (noted S q a) h g w c l ks (passed_room S h c g l q a w x) m (omega arith) in
    let z : c ≤ c = omega arith in
    record { long = y.long; counts = y.counts; left = y.left; words = y.words; alike = alike_then z (passed_alike S h c g l q a w x) y.alike }
noteds_counted S h g zero c l (named q a s ∷ ks) x m n =
    by
    (dec_lt c (h + h))
    (λ r. noteds_counted (noted S q a) h g (pick (suc c == h) g 0) (suc c) l ks r m (omega arith))
    (λ r. noteds_counted (noted S q a) h g zero c (suc l) ks r m (omega arith))
  where
    on : c < h + h → Counted (noted S q a) h (suc c) l (chosen h g (pick (suc c == h) g 0) (suc c) ks) (left_out h g (pick (suc c == h) g 0) (suc c) ks) (noteds (noted S q a) ks)
        → Counted S h c l (named q a s ∷ chosen h g (pick (suc c == h) g 0) (suc c) ks) (left_out h g (pick (suc c == h) g 0) (suc c) ks) (noteds (noted S q a) ks)
    on f y =
        let t = took S h c g l q a x f (omega arith) in
        let e : suc c + count (chosen h g (pick (suc c == h) g 0) (suc c) ks) ≡ c + suc (count (chosen h g (pick (suc c == h) g 0) (suc c) ks)) = omega arith in
        let z : c ≤ suc c = omega arith in
        record {
          long = y.long;
          counts = y.counts ∙ e;
          left = y.left;
          words =
              words_more
              (y.alike.same (4 + 2 * c) (omega arith) (omega arith) ∙ t.object)
              (y.alike.same (4 + 2 * c + 1) (omega arith) (omega arith) ∙ t.place)
              (subst (λ (i : ℕ). Words (noteds (noted S q a) ks) i (suc c) (chosen h g (pick (suc c == h) g 0) (suc c) ks)) e y.words);
          alike = alike_then z t.alike y.alike;
        }

    over : h + h ≤ c → Counted (noted S q a) h c (suc l) (chosen h g zero c ks) (left_out h g zero c ks) (noteds (noted S q a) ks) → Counted S h c l [] (suc (left_out h g zero c ks)) (noteds (noted S q a) ks)
    over f y =
        let e : suc l + left_out h g zero c ks ≡ l + suc (left_out h g zero c ks) = omega arith in
        let z : c ≤ c = omega arith in
        let o : chosen h g zero c ks ≡ [] = chosen_full h g c ks f in
        let u : Counted (noted S q a) h c (suc l) [] (left_out h g zero c ks) (noteds (noted S q a) ks) = subst (λ (k : List Named). Counted (noted S q a) h c (suc l) k (left_out h g zero c ks) (noteds (noted S q a) ks)) o y in
        record { long = u.long; counts = u.counts; left = u.left ∙ e; words = u.words; alike = alike_then z (full_alike S h c g l q a x f (omega arith)) u.alike }

    by : Dec (c < h + h) → (Room (noted S q a) h (suc c) (pick (suc c == h) g 0) g l → Counted (noted S q a) h (suc c) l (chosen h g (pick (suc c == h) g 0) (suc c) ks) (left_out h g (pick (suc c == h) g 0) (suc c) ks) (noteds (noted S q a) ks))
        → (Room (noted S q a) h c zero g (suc l) → Counted (noted S q a) h c (suc l) (chosen h g zero c ks) (left_out h g zero c ks) (noteds (noted S q a) ks))
        → Counted S h c l (chosen h g zero c (named q a s ∷ ks)) (left_out h g zero c (named q a s ∷ ks)) (noteds (noted S q a) ks)
    by (yes f) more none = rw (leb_yes (suc c) (h + h) f) (on f (more (took S h c g l q a x f (omega arith)).room))
    by (no f) more none = rw (lt-leb (suc c) (h + h) (omega arith)) (over (omega arith) (none (full_room S h c g l q a x (omega arith) (omega arith))))
