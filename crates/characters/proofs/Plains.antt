-- Laws of runs of bytes of a class, as the loops over them meet them: the plain bytes of a string, the bytes of a bare key, and digits.
use mathlib.Core.Path.{◌≡◌, refl, sym, ◌∙◌, subst}
use mathlib.Core.List.{List}
use mathlib.Core.Bool.{Bool, true, false}
use Prim.Native.Nat.{ℕ, ◌+◌, ◌-◌, ◌*◌, ◌≤◌, ◌<◌}
use native.Mathlib.Nat.{add-zero}
use native.Mathlib.Omega.{arith}
use native.Mathlib.Decide.{dec_le}
use lib.ListN.{length, get_or}
use lib.Dec.{eqb}
use borrow.Author.Rules.{rules}
use borrow.Author.Tests.{eqb-true, le-leb, lt-leb}
use Rattle.exact.specs.Class.{Class, is}
use Rattle.exact.specs.Place.{get_d_any, run_over, run_none, run_more}
use Rattle.characters.specs.Plains.{Quote, double, single, plain_of, RunTo, Passing, Near}

-- ---- a byte is plain, or not

pub quote_between : {q : ℕ} → Quote q → (32 < q) × (q < 91)
quote_between double = (omega arith, omega arith)
quote_between single = (omega arith, omega arith)

module _ (q b : ℕ) (quote : Quote q) where
  pub plain_below : b < 32 → false ≡ is (plain_of q) b
  plain_below h = let z = quote_between quote in rw (lt-leb 32 b h, lt-leb (q + 1) b (omega arith), lt-leb 93 b (omega arith)) refl

  pub plain_above : 126 < b → false ≡ is (plain_of q) b
  plain_above h =
      let z = quote_between quote in
      rw (le-leb 32 b (omega arith), lt-leb b (q - 1) (omega arith), le-leb (q + 1) b (omega arith), lt-leb b 91 (omega arith), le-leb 93 b (omega arith), lt-leb b 126 h) refl

  pub plain_quote : b ≡ q → false ≡ is (plain_of q) b
  plain_quote h = let z = quote_between quote in rw (le-leb 32 b (omega arith), lt-leb b (q - 1) (omega arith), lt-leb (q + 1) b (omega arith), lt-leb 93 b (omega arith)) refl

  pub plain_back : b ≡ 92 → false ≡ is (plain_of q) b
  plain_back h =
      let z = quote_between quote in
      rw (le-leb 32 b (omega arith), lt-leb b (q - 1) (omega arith), le-leb (q + 1) b (omega arith), lt-leb b 91 (omega arith), lt-leb 93 b (omega arith)) refl

  pub plain_yes : 32 ≤ b → b ≤ 126 → (b ≡ q → ⊥) → (b ≡ 92 → ⊥) → true ≡ is (plain_of q) b
  plain_yes l h n m = by (dec_le b q) (dec_le b 92)
    where
      by : Dec (b ≤ q) → Dec (b ≤ 92) → true ≡ is (plain_of q) b
      by (yes x) y = rw (le-leb 32 b l, le-leb b (q - 1) (omega (arith, n))) refl
      by (no x) (yes y) = rw (le-leb 32 b l, lt-leb b (q - 1) (omega arith), le-leb (q + 1) b (omega arith), le-leb b 91 (omega (arith, m))) refl
      by (no x) (no y) =
          rw (le-leb 32 b l, lt-leb b (q - 1) (omega arith), le-leb (q + 1) b (omega arith), lt-leb b 91 (omega arith), le-leb 93 b (omega arith), le-leb b 126 h) refl

pub ruleset plainbytes = (plain_below, plain_above, plain_quote, plain_back, plain_yes, rules)

-- ---- a run of a class: e is passed over

pub passing_first : (k : Class) (doc : List ℕ) (at : ℕ) → at ≤ length doc → Passing k doc at at
passing_first k doc at l = record { same = refl; from = omega arith; inside = l }

pass_on : (k : Class) (doc : List ℕ) (at e f : ℕ) → Passing k doc at e → Passing k doc e f → Passing k doc at f
pass_on k doc at e f p r = record { same = p.same ∙ r.same; from = omega (arith, p.from, r.from); inside = r.inside }

-- the same by blocks of 64: from the first on, one more, and as many as there are
pub blocks_first : (k : Class) (doc : List ℕ) (at i : ℕ) → at ≤ length doc → i ≡ 0 → Passing k doc at (at + 64 * i)
blocks_first k doc at i l e = let z : at + 64 * i ≡ at = omega arith in rw z (passing_first k doc at l)

pub blocks_more : (k : Class) (doc : List ℕ) (at i : ℕ) (x : Bool) → Passing k doc at (at + 64 * i) → (x ≡ true → Passing k doc (at + 64 * i) (at + 64 * i + 64)) → x ≡ true → Passing k doc at (at + 64 * (i + 1))
blocks_more k doc at i x p r z = let e : at + 64 * (i + 1) ≡ at + 64 * i + 64 = omega arith in rw e (pass_on k doc at (at + 64 * i) (at + 64 * i + 64) p (r z))

pub blocks_all : (k : Class) (doc : List ℕ) (at i n : ℕ) → Passing k doc at (at + 64 * i) → i ≡ n → Passing k doc at (at + 64 * n)
blocks_all k doc at i n p e = rw (← e) p

module _ (k : Class) (doc : List ℕ) (at e : ℕ) (p : Passing k doc at e) where
  pub pass_over : length doc ≤ e → RunTo k doc at e
  pass_over l = record { is = sym (p.same ∙ run_over k doc e l); from = p.from; inside = p.inside }

  pub pass_whole : length doc ≤ e → RunTo k doc at (length doc)
  pass_whole l = let z : e ≡ length doc = omega (arith, p.inside) in subst (RunTo k doc at) z (pass_over l)

  -- .. as a test of the byte says it, for a class that does not have the end
  module _ (l : e < length doc) (x : Bool) (h : x ≡ is k (get_or doc e 0)) where
    pub pass_stop : is k 256 ≡ false → x ≡ false → RunTo k doc at e
    pass_stop n z = record { is = sym (p.same ∙ run_none k doc e n (rw (← get_d_any doc e 0 256 l) (sym h ∙ z))); from = p.from; inside = p.inside }

    pub pass_more : x ≡ true → Passing k doc at (e + 1)
    pass_more z = record { same = p.same ∙ run_more k doc e l (rw (← get_d_any doc e 0 256 l) (sym h ∙ z)); from = omega (arith, p.from); inside = omega arith }

pub plain_ends : (q : ℕ) → Quote q → is (plain_of q) 256 ≡ false
plain_ends q quote = sym (plain_above q 256 quote (omega arith))

-- a run up to its 8th byte
module _ (k : Class) (doc : List ℕ) (at e : ℕ) where
  pub near_full : Passing k doc at e → e - at ≡ 8 → Near k doc at e
  near_full p h = record { passing = p; ending = λ l. absurd (omega arith) }

  pub near_ended : Passing k doc at e → RunTo k doc at e → Near k doc at e
  near_ended p r = record { passing = p; ending = λ _. r }

  pub near_whole : Passing k doc at e → length doc ≤ e → Near k doc at (length doc)
  near_whole p l = let z : e ≡ length doc = omega (arith, p.inside) in subst (Near k doc at) z (near_ended p (pass_over k doc at e p l))

  pub near_run : Near k doc at e → e - at < 8 → RunTo k doc at e
  near_run n l = n.ending l

  pub near_on : (f : ℕ) → Near k doc at e → Passing k doc e f → Passing k doc at f
  near_on f n p = pass_on k doc at e f n.passing p

-- ---- n of the i bytes from `at` on are of a class: all of them, or fewer

pub record Counted (k : Class) (doc : List ℕ) (at n i : ℕ) : Type 0 where
  pub few : n ≤ i
  pub full : n ≡ i → Passing k doc at (at + i)

module _ (k : Class) (doc : List ℕ) (at : ℕ) where
  pub counted_none : at ≤ length doc → Counted k doc at 0 0
  counted_none l = record { few = omega arith; full = λ _. rw (add-zero at) (passing_first k doc at l) }

  module _ (n i : ℕ) (c : Counted k doc at n i) (m : ℕ) where
    pub counted_more : (x : Bool) → x ≡ is k (get_or doc (at + i) 0) → at + i < length doc → x ≡ true → m ≡ n + 1 → Counted k doc at m (i + 1)
    counted_more x h l z y =
        record {
          few = omega (arith, c.few);
          full = λ e. let s : at + (i + 1) ≡ at + i + 1 = omega arith in rw s (pass_more k doc at (at + i) (c.full (omega arith)) l x h z);
        }

    pub counted_less : m ≡ n → Counted k doc at m (i + 1)
    counted_less y = record { few = omega (arith, c.few); full = λ e. absurd (omega (arith, c.few)) }

  pub counted_all : (n i : ℕ) → Counted k doc at n i → i ≡ 64 → eqb n 64 ≡ true → Passing k doc at (at + 64)
  counted_all n i c e h = let z : n ≡ i = eqb-true n 64 h ∙ sym e in rw e at (c.full z)

pub ruleset plains = (passing_first, pass_over, pass_whole, pass_stop, pass_more, plain_ends, rules)
