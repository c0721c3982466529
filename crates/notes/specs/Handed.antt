-- WHAT A ROOM HOLDS once a key was handed to it: a small room has noted it; a large one has sieved it, or noted it in its log, if it passes the filter. Assumes nothing.
use Rattle.std.specs.Prelude.{◌≡◌, List, [], ◌∷◌, ◌++◌, Bool, ℕ, ◌+◌, ◌-◌, ◌*◌, ◌/◌, ◌%◌, ◌≤◌, ◌<◌, length, get_or, take, drop}
use Rattle.std.proofs.Math.Path.{refl, sym}
use Rattle.std.proofs.Common.{ap, subst, ◌∙◌, mod-lt, arith, rules, eq-eqb, ne_eqb, length-take-le, take_at, get_or-append-add, get_or-drop}
use Rattle.std.proofs.Math.Bool.{true, false}
use Rattle.std.proofs.Math.Dec.{eqb}
use Rattle.notation.specs.Class.{pick}
use Rattle.language.specs.Answered.{limit}
use Rattle.exact.specs.Tells.{Tells}
use Rattle.named.specs.Flat.{Named, named}
use Rattle.spelt.specs.Texts.{spelled}
use Rattle.spelt.specs.Reading.{Keyed, keyed_low}
use Rattle.spelt.specs.Hash.{hash_of, HashOf}
use Rattle.sieve.specs.Bits.{digit, On}
use Rattle.sieve.specs.Sieve.{hits, filter, large, class_of, class_low, Mark, mark, Sieved, Steps}
use Rattle.std.proofs.Math.Seq.{length_front}
use Rattle.exact.specs.Class.{clash}
use Rattle.notes.specs.Noted.{noted, length_noted}

-- ---- the words of a large room

-- the log stands before the others
abbrev pub log : ℕ
log = 6564

abbrev pub mode : ℕ
mode = 6564

abbrev pub round : ℕ
round = 6565

-- every round has a factor of its own
abbrev pub factor_of : ℕ → ℕ
factor_of r = (2654435761 + 180000002 * r) % 4294967296

-- the class of a key in a round
abbrev pub key_class : ℕ → ℕ → List ℕ → ℕ
key_class r q s = class_of (hash_of (factor_of r) q s)

-- whether a key passes the filter: in the first round all do
unfoldable pub passing : List ℕ → ℕ → List ℕ → Bool
passing S q s =
    pick (eqb (get_or S round 0) 0) true (eqb (digit (get_or S (filter + key_class (get_or S round 0) q s / 32) 0) (key_class (get_or S round 0) q s % 32)) 1)

-- ---- one key more

pub record Sifts (doc S : List ℕ) (q a : ℕ) (S' : List ℕ) : Type 0 where
  pub long : length S' ≡ length S
  pub between : (i : ℕ) → log ≤ i → i < hits → get_or S' i 0 ≡ get_or S i 0
  pub above : (i : ℕ) → filter ≤ i → get_or S' i 0 ≡ get_or S i 0
  pub noting : get_or S mode 0 ≡ 0 → passing S q (spelled doc a) ≡ true → take log S' ≡ noted (take log S) q a
  pub sieving : (get_or S mode 0 ≡ 0 → ⊥) → passing S q (spelled doc a) ≡ true
      → (zs : List Mark) → Sieved zs S → Sieved (mark q (hash_of (factor_of (get_or S round 0 + 1)) q (spelled doc a)) ∷ zs) S'
  pub passed : passing S q (spelled doc a) ≡ false → S' ≡ S

pub record Handed (doc S : List ℕ) (q a : ℕ) (S' : List ℕ) : Type 0 where
  pub plain : (length S ≡ large → ⊥) → S' ≡ noted S q a
  pub sifts : length S ≡ large → Sifts doc S q a S'

-- these keys, one after another
pub data Took (doc : List ℕ) : List ℕ → List Named → List ℕ → Type 0 where
  took_none : {S : List ℕ} → Took doc S [] S
  took_more : {S S' S'' : List ℕ} {q a : ℕ} {s : List ℕ} {ns : List Named} → Handed doc S q a S' → Took doc S' ns S'' → Took doc S (named q a s ∷ ns) S''

pub took_append : {doc S S' S'' : List ℕ} (ms : List Named) {ns : List Named} → Took doc S ms S' → Took doc S' ns S'' → Took doc S (ms ++ ns) S''
took_append _ took_none y = y
took_append (named _ _ _ ∷ ms) (took_more x z) y = took_more x (took_append ms z y)

-- ---- what the functions show

pub factor_low : (r : ℕ) → factor_of r < 4294967296
factor_low r = mod-lt (2654435761 + 180000002 * r) (omega arith)

pub record Sifting (doc keys : List ℕ) (q a : ℕ) : Type 0 where
  pub long : length keys ≡ large
  pub keyed : Keyed doc a
  pub low : q < 4294967296

module _ (doc S : List ℕ) (q a : ℕ) (x : Sifting doc S q a) where
  pub sift_round : round < length S
  sift_round = omega (arith, x.long)

  pub sift_mode : mode < length S
  sift_mode = omega (arith, x.long)

  pub sift_keyed : Keyed doc a
  sift_keyed = x.keyed

  pub sift_low : q < 4294967296
  sift_low = x.low

  pub sift_long : length S ≡ large
  sift_long = x.long

  pub sift_at : a ≤ limit
  sift_at = keyed_low doc a x.keyed

  module _ (r : ℕ) (e : r ≡ get_or S round 0) where
    pub passes_all : r < 1 → true ≡ passing S q (spelled doc a)
    unfolding passing
    passes_all l = rw (eq-eqb (get_or S round 0) 0 (omega arith)) refl

    module _ (l : 1 ≤ r) (f h c : ℕ) (g : f ≡ factor_of r) (y : HashOf doc a q f h) (z : c ≡ class_of h) where
      class_is : c ≡ key_class (get_or S round 0) q (spelled doc a)
      class_is = z ∙ ap class_of (y.is ∙ rw (g, e) refl)

      pub passes_room : filter + c / 32 < length S
      passes_room = let k = class_low h in rw z (omega (arith, x.long))

      pub passes_bit : (b : Bool) → Tells (On S filter c) b → b ≡ passing S q (spelled doc a)
      unfolding passing On
      passes_bit b t = rw (ne_eqb (get_or S round 0) 0 (λ u. omega arith), sym class_is) (by b t)
        where
          by : (b : Bool) → Tells (digit (get_or S (filter + c / 32) 0) (c % 32) ≡ 1) b → b ≡ eqb (digit (get_or S (filter + c / 32) 0) (c % 32)) 1
          by true u = sym (eq-eqb _ 1 u)
          by false u = sym (ne_eqb _ 1 u)

-- the hash of a key, whatever its factor
pub hash_low : (doc : List ℕ) (a q f h : ℕ) → HashOf doc a q f h → h < 4294967296
hash_low doc a q f h y = y.low

pub ruleset passes = (sift_round, sift_keyed, sift_low, factor_low, passes_all, passes_room, passes_bit, hash_low, rules)

-- the words behind a front that is stored anew
get_d_behind : (X S : List ℕ) (n i : ℕ) → length X ≡ n → n ≤ i → get_or (X ++ drop n S) i 0 ≡ get_or S i 0
get_d_behind X S n i e l =
    let k : ℕ = i - n in
    let f : length X + (i - n) ≡ i = omega arith in
    let g : n + (i - n) ≡ i = omega arith in
    ap (λ (j : ℕ). get_or (X ++ drop n S) j 0) (sym f) ∙ (get_or-append-add X (drop n S) (i - n) 0 ∙ (get_or-drop n S (i - n) 0 ∙ ap (λ (j : ℕ). get_or S j 0) g))

-- ---- `sow` and `sift`

pub record Sown (doc S : List ℕ) (q a : ℕ) (S' : List ℕ) : Type 0 where
  pub steps : Steps S q (hash_of (factor_of (get_or S round 0 + 1)) q (spelled doc a)) S'

pub sown : (doc S : List ℕ) (q a : ℕ) (S' : List ℕ) (r f h : ℕ) → r ≡ get_or S round 0 → f ≡ factor_of (r + 1) → HashOf doc a q f h → Steps S q h S' → Sown doc S q a S'
sown doc S q a S' r f h e g y x = record { steps = subst (λ (k : ℕ). Steps S q k S') (y.is ∙ rw (g, e) refl) x }

pub ruleset sowing = (sift_round, sift_keyed, sift_low, sift_long, factor_low, hash_low, sown, rules)

module _ (doc S : List ℕ) (q a : ℕ) (x : Sifting doc S q a) (b : Bool) (e : b ≡ passing S q (spelled doc a)) where
  pub sifted_not : b ≡ false → Sifts doc S q a S
  sifted_not f =
      record {
        long = refl;
        between = λ i l m. refl;
        above = λ i l. refl;
        noting = λ m p. absurd (clash p (sym e ∙ f));
        sieving = λ m p. absurd (clash p (sym e ∙ f));
        passed = λ p. refl;
      }

  module _ (f : b ≡ true) (m : ℕ) (g : m ≡ get_or S mode 0) where
    pub sifted_listed : m < 1 → (S' : List ℕ) → S' ≡ noted (take log S) q a ++ drop log S → Sifts doc S q a S'
    sifted_listed l S' u =
        let n = length_noted (take log S) q a ∙ length-take-le log S (omega (arith, x.long)) in
        let o : (i : ℕ) → log ≤ i → get_or S' i 0 ≡ get_or S i 0 = λ i v. rw u (get_d_behind (noted (take log S) q a) S log i n v) in
        record {
          long = rw u (length_front S (noted (take log S) q a) log (length_noted (take log S) q a));
          between = λ i v w. o i v;
          above = λ i v. o i (omega arith);
          noting = λ v p. rw u (take_at (noted (take log S) q a) (drop log S) log n);
          sieving = λ v p. absurd (v (omega arith));
          passed = λ p. absurd (clash (sym e ∙ f) p);
        }

    pub sifted_sown : 1 ≤ m → (S' : List ℕ) → Sown doc S q a S' → Sifts doc S q a S'
    sifted_sown l S' y =
        let w = y.steps.framed in
        record {
          long = w.long;
          between = λ i u v. w.below i v;
          above = w.above;
          noting = λ v p. absurd (omega arith);
          sieving = λ v p zs s. y.steps.sieved zs s;
          passed = λ p. absurd (clash (sym e ∙ f) p);
        }

pub ruleset sifting = (sift_mode, sift_long, sift_at, sifted_not, sifted_listed, sifted_sown, rules)

-- ---- `note`

module _ (doc S : List ℕ) (q a : ℕ) where
  pub note_sifting : Keyed doc a → length S ≡ large → q < 4294967296 → Sifting doc S q a
  note_sifting k e l = record { long = e; keyed = k; low = l }

  pub note_sifted : (S' : List ℕ) → length S ≡ large → Sifts doc S q a S' → Handed doc S q a S'
  note_sifted S' e x = record { plain = λ n. absurd (n e); sifts = λ n. x }

  pub note_plain : (S' : List ℕ) → (length S ≡ large → ⊥) → S' ≡ noted S q a → Handed doc S q a S'
  note_plain S' n x = record { plain = λ m. x; sifts = λ e. absurd (n e) }

  pub note_at : Keyed doc a → a ≤ limit
  note_at k = keyed_low doc a k

pub ruleset taking = (note_sifting, note_sifted, note_plain, note_at, rules)

-- ---- `list`

pub prefix_long : (S : List ℕ) → length S ≡ large → length (take log S) ≡ log
prefix_long S e = length-take-le log S (omega arith)

pub list_done : (S X : List ℕ) (q a : ℕ) → X ≡ noted (take log S) q a → X ++ drop log S ≡ noted (take log S) q a ++ drop log S
list_done S X q a e = rw e refl
