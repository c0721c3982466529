-- WHAT A ROOM HOLDS once keys are noted in it: four words that say how far it has come, and behind them two for each key. Assumes nothing.
use Rattle.std.specs.Prelude.{◌≡◌, List, [], ◌∷◌, ◌++◌, Bool, true, false, ℕ, ◌+◌, ◌-◌, ◌*◌, ◌/◌, ◌%◌, ◌≤◌, ◌<◌, length, set, leb, eqb}
use Rattle.std.proofs.Math.Path.{refl}
use Rattle.std.proofs.Common.{◌∙◌, arith, length-set, rules}
use Rattle.std.proofs.Math.ListN.{get_or}
use Rattle.notation.specs.Class.{pick}
use borrow.Author.Tests.{lt-leb, eq-eqb, ne_eqb}
use Rattle.exact.specs.Class.{leb_yes}
use Rattle.notes.specs.Flat.{Named, named}

-- ---- the first four words: how many keys are noted; how many are passed by before the next one is; how many are passed by once half of the room is full; how many came when it was full

-- the number of keys that half of a room takes
abbrev pub half_of : List ℕ → ℕ
half_of S = (length S - 4) / 4

-- the n-th key takes its two words, the row of its object and its first byte; once half of the room is full, keys may be passed by
unfoldable pub halved : List ℕ → ℕ → List ℕ
halved S n = pick (eqb n (half_of S)) (set S 1 (get_or S 2 0)) S

unfoldable pub entered : List ℕ → ℕ → ℕ → ℕ → List ℕ
entered S n q a = halved (set (set (set S (4 + 2 * n) q) (4 + 2 * n + 1) a) 0 ((n + 1) % 4294967296)) (n + 1)

-- one key more: passed by, noted, or one for which there is no room
unfoldable pub noted : List ℕ → ℕ → ℕ → List ℕ
noted S q a =
    pick (leb (length S) 3) S
    (pick (leb 1 (get_or S 1 0)) (set S 1 (get_or S 1 0 - 1))
    (pick (leb (4 + 2 * get_or S 0 0 + 2) (length S)) (entered S (get_or S 0 0) q a) (set S 3 ((get_or S 3 0 + 1) % 4294967296))))

-- these keys, one after another
unfoldable pub noteds : List ℕ → List Named → List ℕ
noteds S [] = S
noteds S (named q a s ∷ ns) = noteds (noted S q a) ns

pub noteds_append : (S : List ℕ) (ms ns : List Named) → noteds S (ms ++ ns) ≡ noteds (noteds S ms) ns
unfolding noteds
noteds_append S [] ns = refl
noteds_append S (named q a s ∷ ms) ns = noteds_append (noted S q a) ms ns

-- ---- what `enter` and `note` show

module _ (S : List ℕ) (n : ℕ) (h : 4 + 2 * n + 2 ≤ length S) (q a : ℕ) where
  abbrev T : List ℕ
  T = set (set S (4 + 2 * n) q) (4 + 2 * n + 1) a

  long : length (set T 0 ((n + 1) % 4294967296)) ≡ length S
  long = omega (arith, length-set T 0 ((n + 1) % 4294967296), length-set (set S (4 + 2 * n) q) (4 + 2 * n + 1) a, length-set S (4 + 2 * n) q)

  pub enter_second : 4 + 2 * n + 1 < length (set S (4 + 2 * n) q)
  enter_second = omega (arith, length-set S (4 + 2 * n) q)

  pub enter_count : 0 < length T
  enter_count = omega (arith, length-set (set S (4 + 2 * n) q) (4 + 2 * n + 1) a, length-set S (4 + 2 * n) q)

  pub enter_head : 4 ≤ length (set T 0 ((n + 1) % 4294967296))
  enter_head = omega (arith, long)

  pub enter_half : n + 1 ≡ (length (set T 0 ((n + 1) % 4294967296)) - 4) / 4 → set (set T 0 ((n + 1) % 4294967296)) 1 (get_or (set T 0 ((n + 1) % 4294967296)) 2 0) ≡ entered S n q a
  unfolding entered halved
  enter_half e = rw (eq-eqb (n + 1) _ e) refl

  pub enter_other : (n + 1 ≡ (length (set T 0 ((n + 1) % 4294967296)) - 4) / 4 → ⊥) → set T 0 ((n + 1) % 4294967296) ≡ entered S n q a
  unfolding entered halved
  enter_other e = rw (ne_eqb (n + 1) _ e) refl

pub ruleset entering = (enter_second, enter_count, enter_head, enter_half, enter_other, rules)

module _ (S : List ℕ) (q a : ℕ) where
  pub note_small : length S < 4 → S ≡ noted S q a
  unfolding noted
  note_small h = rw (leb_yes (length S) 3 (omega arith)) refl

  module _ (h : 4 ≤ length S) where
    pub note_passed : (p : ℕ) → p ≡ get_or S 1 0 → 0 < p → set S 1 (p - 1) ≡ noted S q a
    unfolding noted
    note_passed p e l = rw (lt-leb (length S) 3 (omega arith), e, leb_yes 1 (get_or S 1 0) (omega arith)) refl

    module _ (p : ℕ) (g : p ≡ get_or S 1 0) (z : p ≤ 0) where
      e : get_or S 1 0 ≡ 0
      e = omega arith

      pub note_entered : (n : ℕ) → n ≡ get_or S 0 0 → 4 + 2 * n + 2 ≤ length S → (X : List ℕ) → X ≡ entered S n q a → X ≡ noted S q a
      unfolding noted
      note_entered n f l X d = rw (lt-leb (length S) 3 (omega arith), d, f, e, leb_yes (4 + 2 * get_or S 0 0 + 2) (length S) (omega arith)) refl

      pub note_left : (n : ℕ) → n ≡ get_or S 0 0 → length S < 4 + 2 * n + 2 → (X : List ℕ) → X ≡ set S 3 ((get_or S 3 0 + 1) % 4294967296) → X ≡ noted S q a
      unfolding noted
      note_left n f l X d = rw (d, lt-leb (length S) 3 (omega arith), e, lt-leb (4 + 2 * get_or S 0 0 + 2) (length S) (omega arith)) refl

pub ruleset noting = (note_small, note_passed, note_entered, note_left, rules)

pub left_one : (S : List ℕ) (k : ℕ) → k ≡ get_or S 3 0 → set S 3 ((k + 1) % 4294967296) ≡ set S 3 ((get_or S 3 0 + 1) % 4294967296)
left_one S k e = rw e refl

-- a room keeps its length
pub length_noted : (S : List ℕ) (q a : ℕ) → length (noted S q a) ≡ length S
unfolding noted entered halved
length_noted S q a = by (leb (length S) 3) (leb 1 (get_or S 1 0)) (leb (4 + 2 * get_or S 0 0 + 2) (length S)) (eqb (get_or S 0 0 + 1) (half_of E))
  where
    n : ℕ
    n = get_or S 0 0

    E : List ℕ
    E = set (set (set S (4 + 2 * get_or S 0 0) q) (4 + 2 * get_or S 0 0 + 1) a) 0 ((get_or S 0 0 + 1) % 4294967296)

    e : length E ≡ length S
    e =
        length-set (set (set S (4 + 2 * get_or S 0 0) q) (4 + 2 * get_or S 0 0 + 1) a) 0 ((get_or S 0 0 + 1) % 4294967296)
        ∙ (length-set (set S (4 + 2 * get_or S 0 0) q) (4 + 2 * get_or S 0 0 + 1) a ∙ length-set S (4 + 2 * get_or S 0 0) q)

    by : (b c d h : Bool) → length (pick b S (pick c (set S 1 (get_or S 1 0 - 1)) (pick d (pick h (set E 1 (get_or E 2 0)) E) (set S 3 ((get_or S 3 0 + 1) % 4294967296))))) ≡ length S
    by true c d h = refl
    by false true d h = length-set S 1 (get_or S 1 0 - 1)
    by false false true true = length-set E 1 (get_or E 2 0) ∙ e
    by false false true false = e
    by false false false h = length-set S 3 ((get_or S 3 0 + 1) % 4294967296)
