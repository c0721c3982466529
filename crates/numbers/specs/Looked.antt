-- The combinators of Ll where besides a class of bytes some longer texts may not follow: a space and a digit, after digits with spaces between. Assumes nothing.
use Rattle.std.specs.Prelude.{◌≡◌, refl, List, [], ◌∷◌, ◌++◌, ◌⊎◌, Bool, true, false, ℕ}
use Rattle.std.proofs.Common.{subst, inl, inr, arith}
use Rattle.exact.specs.Class.{Starts, clash, Class, is, and, apart, when, sub, starts_left, starts_right, starts_none, starts_inside}
use Rattle.exact.specs.Out.{Reader, Firm, firm_bind, firm_pick}
use Rattle.exact.specs.Lang.{Lang, bar, Exact, within_bar, within_same, weaken}
use Rattle.exact.specs.Comb.{Seq, seq_r, seq_exact, Alt, alt_r, alt_exact, exact_iff, one, two}
use Rattle.exact.specs.Ll.{Shape, need, Begun, by_first, by_null, Ll, seq_s, alt_s, need_le, need_false, need_and, begun_seq, begun_starts, begun_two, begun_inside}

-- A LOOK: the texts that may not follow, which bytes they begin with, and where readers of what they may not follow are firm
pub record Look : Type 1 where
  pub bars : List ℕ → Type 0
  pub first : Class
  pub starts : (t : List ℕ) → bars t → Starts (is first) t
  pub sure : Type 0

-- what may not follow: a byte of the class, or what the look bars
abbrev pub On : Look → Class → List ℕ → Type 0
On g c t = Starts (is c) t ⊎ g.bars t

pub on_inside : (g : Look) (c d : Class) (t : List ℕ) → sub c d ≡ true → On g c t → On g d t
on_inside g c d t e (inl x) = inl (starts_inside c d t e x)
on_inside g c d t e (inr x) = inr x

-- bytes apart from both
pub on_none : (g : Look) (c d : Class) (t : List ℕ) → apart c d ≡ true → apart c g.first ≡ true → Starts (is c) t → On g d t → ⊥
on_none g c d t e h x (inl y) = starts_none c d t e x y
on_none g c d t e h x (inr y) = starts_none c g.first t h x (g.starts t y)

on_left : (g : Look) (c d : Class) (t : List ℕ) → On g c t → On g (c ++ d) t
on_left g c d t (inl x) = inl (starts_left c d t x)
on_left g c d t (inr x) = inr x

on_right : (g : Look) (c d : Class) (t : List ℕ) → On g d t → On g (c ++ d) t
on_right g c d t (inl x) = inl (starts_right c d t x)
on_right g c d t (inr x) = inr x

pub record Looked {X : Type 0} (g : Look) (σ : Shape) (A : Lang X) (r : Reader X) : Type 1 where
  pub exact : Exact (need σ.null) A (bar (On g σ.follow)) r
  pub begun : (at : ℕ) (s : List ℕ) (v : X) (at' : ℕ) (t : List ℕ) → A at s v at' t → Begun σ s t
  pub firm : g.sure → (at : ℕ) (s : List ℕ) → Firm (r at s)

-- what looks at bytes alone
pub of_ll : {X : Type 0} {σ : Shape} {A : Lang X} {r : Reader X} (g : Look) → Ll σ A r → Looked g σ A r
of_ll {σ = σ} g l =
    record {
      exact = weaken (need σ.null) (bar (On g σ.follow)) (omega arith) (within_bar _ _ (λ t x. inl x)) l.exact;
      begun = l.begun;
      firm = λ _. l.firm;
    }

-- one after the other
module _ (g : Look) where
  on_when : (n : Bool) (c : Class) (t : List ℕ) → n ≡ true → On g c t → On g (when n c) t
  on_when true c t e x = x
  on_when false c t e x = absurd (clash e refl)

module _ {X Y : Type 0} {g : Look} {σ τ : Shape} {A : Lang X} {B : X → Lang Y} {r : Reader X} {q : X → Reader Y} (e : apart τ.first σ.follow ≡ true)
    (h : apart τ.first g.first ≡ true) (la : Looked g σ A r) (lb : (x : X) → Looked g τ (B x) (q x)) where
  seq_apart : (x : X) (at : ℕ) (s : List ℕ) (y : Y) (at' : ℕ) (t : List ℕ) → B x at s y at' t → (On g (seq_s σ τ).follow t → ⊥) → On g σ.follow s → ⊥
  seq_apart x at s y at' t b n f = go ((lb x).begun at s y at' t b)
    where
      go : Begun τ s t → ⊥
      go (by_first z) = on_none g τ.first σ.follow s e h z f
      go (by_null m z) =
          n (on_right g τ.follow (when τ.null σ.follow) t (on_when g τ.null σ.follow t m (subst (λ (l : List ℕ). On g σ.follow l) z f)))

  seq_begun : (at : ℕ) (s : List ℕ) (v : Y) (at' : ℕ) (t : List ℕ) → Seq A B at s v at' t → Begun (seq_s σ τ) s t
  seq_begun at s v at' t x = begun_seq σ τ (la.begun at s x.value x.middle x.rest x.first) ((lb x.value).begun x.middle x.rest v at' t x.second)

  pub seq_looked : Looked g (seq_s σ τ) (Seq A B) (seq_r r q)
  seq_looked =
      record {
        exact =
            weaken
            (need (and σ.null τ.null))
            (bar (On g (seq_s σ τ).follow))
            (need_and σ.null τ.null)
            (within_same _)
            (seq_exact
            la.exact
            (λ x. weaken (need τ.null) (bar (On g (seq_s σ τ).follow)) (omega arith) (within_bar _ _ (λ t y. on_left g τ.follow (when τ.null σ.follow) t y)) (lb x).exact)
            seq_apart);
        begun = seq_begun;
        firm = λ u at s. firm_bind q (la.firm u at s) (λ x a t. (lb x).firm u a t);
      }

-- one or the other; the first is never empty
module _ {X : Type 0} {g : Look} {σ τ : Shape} {A B : Lang X} {r q : Reader X} (n : σ.null ≡ false) (e : apart τ.first σ.first ≡ true) (la : Looked g σ A r)
    (lb : Looked g τ B q) where
  alt_starts : (at : ℕ) (s : List ℕ) (v : X) (at' : ℕ) (t : List ℕ) → A at s v at' t → Starts (is σ.first) s
  alt_starts at s v at' t x = begun_starts σ n (la.begun at s v at' t x)

  alt_avoids : (at : ℕ) (s : List ℕ) (v : X) (at' : ℕ) (t : List ℕ) → B at s v at' t → (On g (alt_s σ τ).follow t → ⊥) → Starts (is σ.first) s → ⊥
  alt_avoids at s v at' t x k f = go (lb.begun at s v at' t x)
    where
      go : Begun τ s t → ⊥
      go (by_first z) = starts_none τ.first σ.first s e z f
      go (by_null m z) =
          k
          (on_right
          g
          (σ.follow ++ τ.follow)
          (when τ.null σ.first)
          t
          (on_when g τ.null σ.first t m (inl (subst (λ (l : List ℕ). Starts (is σ.first) l) z f))))

  alt_begun : (at : ℕ) (s : List ℕ) (v : X) (at' : ℕ) (t : List ℕ) → Alt A B at s v at' t → Begun (alt_s σ τ) s t
  alt_begun at s v at' t (one x) = by_first (starts_left σ.first τ.first s (alt_starts at s v at' t x))
  alt_begun at s v at' t (two x) = begun_two σ τ (lb.begun at s v at' t x)

  firm_alt : g.sure → (at : ℕ) (s : List ℕ) → Firm (alt_r (is σ.first) r q at s)
  firm_alt u at [] = lb.firm u at []
  firm_alt u at (b ∷ s) = firm_pick (is σ.first b) (la.firm u at (b ∷ s)) (lb.firm u at (b ∷ s))

  pub alt_looked : Looked g (alt_s σ τ) (Alt A B) (alt_r (is σ.first) r q)
  alt_looked =
      record {
        exact =
            alt_exact
            (is σ.first)
            alt_starts
            alt_avoids
            (weaken
            (need τ.null)
            (bar (On g (alt_s σ τ).follow))
            (omega (arith, need_le τ.null, need_false σ.null n))
            (within_bar _ _ (λ t x. on_left g (σ.follow ++ τ.follow) (when τ.null σ.first) t (on_left g σ.follow τ.follow t x)))
            la.exact)
            (weaken
            (need τ.null)
            (bar (On g (alt_s σ τ).follow))
            (omega arith)
            (within_bar _ _ (λ t x. on_left g (σ.follow ++ τ.follow) (when τ.null σ.first) t (on_right g σ.follow τ.follow t x)))
            lb.exact);
        begun = alt_begun;
        firm = firm_alt;
      }

-- less is said
pub relax_looked : {X : Type 0} {g : Look} {σ : Shape} (τ : Shape) {A : Lang X} {r : Reader X} → σ.null ≡ τ.null → sub σ.first τ.first ≡ true
    → sub σ.follow τ.follow ≡ true → Looked g σ A r → Looked g τ A r
relax_looked {X} {g} {σ} τ {A} n e h la =
    record {
      exact = weaken (need τ.null) (bar (On g τ.follow)) (rw n (omega arith)) (within_bar _ _ (λ t x. on_inside g σ.follow τ.follow t h x)) la.exact;
      begun = λ at s v at' t x. begun_inside σ τ n e (la.begun at s v at' t x);
      firm = la.firm;
    }

-- a language of the same words
pub looked_iff : {X : Type 0} {g : Look} {σ : Shape} {A B : Lang X} {r : Reader X}
    → ((at : ℕ) (s : List ℕ) (v : X) (at' : ℕ) (t : List ℕ) → A at s v at' t → B at s v at' t)
    → ((at : ℕ) (s : List ℕ) (v : X) (at' : ℕ) (t : List ℕ) → B at s v at' t → A at s v at' t) → Looked g σ A r → Looked g σ B r
looked_iff to from l =
    record { exact = exact_iff to from l.exact; begun = λ at s v at' t x. l.begun at s v at' t (from at s v at' t x); firm = l.firm }

-- where nothing longer is barred, bytes alone decide
pub to_ll : {X : Type 0} {g : Look} {σ : Shape} {A : Lang X} {r : Reader X} → g.sure → ((t : List ℕ) → g.bars t → ⊥) → Looked g σ A r → Ll σ A r
to_ll {g = g} {σ} u n l =
    record {
      exact = weaken (need σ.null) (bar (Starts (is σ.follow))) (omega arith) (within_bar _ _ go) l.exact;
      begun = l.begun;
      firm = l.firm u;
    }
  where
    go : (t : List ℕ) → On g σ.follow t → Starts (is σ.follow) t
    go t (inl x) = x
    go t (inr x) = absurd (n t x)
