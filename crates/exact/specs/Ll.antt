-- The combinators again with first and follow classes that are computed, so that what has to be apart is `refl`. Assumes nothing.
use Rattle.std.specs.Prelude.{◌≡◌, refl, List, [], ◌∷◌, ◌++◌, ◌⊎◌, Bool, true, false, ℕ, zero, suc, ◌+◌, ◌≤◌, ◌<◌, length, eqb}
use Rattle.std.proofs.Common.{sym, ap, subst, ◌∙◌, inl, inr, arith}
pub use Rattle.notation.specs.Lang.{Here, here, Word}
use Rattle.exact.specs.Verdict.{Tail, same}
use Rattle.exact.specs.Class.{Starts, clash, Class, and, is, apart, when, starts_left, starts_right, starts_none, sub, starts_inside, only, only_is, apart_nil}
use Rattle.exact.specs.Out.{Reader, fmap, moves_none, Firm, firm_bind, firm_pick, firm_fmap, ok, t_ok, f_ok, f_bad}
use Rattle.exact.specs.Lang.{Lang, bar, Exact, within_bar, within_none, within_same, weaken, Ret, ret_r, ret_exact, Byte, byte_r, byte_exact, ret, byte}
use Rattle.exact.specs.Comb.{Seq, seq_r, seq_exact, Alt, alt_r, alt_exact, Star, star_r, many_r, Or, star_exact, one, two, nil, cons}

-- may be empty; the bytes that it begins with; the bytes that must not follow it
pub record Shape : Type 0 where
  pub null : Bool
  pub first : Class
  pub follow : Class

abbrev pub need : Bool → ℕ
need true = 0
need false = 1

pub data Begun (σ : Shape) (s t : List ℕ) : Type 0 where
  by_first : Starts (is σ.first) s → Begun σ s t
  by_null : σ.null ≡ true → s ≡ t → Begun σ s t

pub record Ll {X : Type 0} (σ : Shape) (A : Lang X) (r : Reader X) : Type 1 where
  pub exact : Exact (need σ.null) A (bar (Starts (is σ.follow))) r
  pub begun : (at : ℕ) (s : List ℕ) (v : X) (at' : ℕ) (t : List ℕ) → A at s v at' t → Begun σ s t
  pub firm : (at : ℕ) (s : List ℕ) → Firm (r at s)

never : (f : ℕ → Bool) (t : List ℕ) → ⊥ → Starts f t
never f t x = absurd x

-- nothing
abbrev pub ret_s : Shape
ret_s = record { null = true; first = []; follow = [] }

pub ret_ll : {X : Type 0} (v : X) → Ll ret_s (Ret v) (ret_r v)
ret_ll {X} v = record { exact = weaken 0 (bar (Starts (is []))) (omega arith) (within_none _) (ret_exact v); begun = go; firm = λ at s. f_ok }
  where
    go : (at : ℕ) (s : List ℕ) (v' : X) (at' : ℕ) (t : List ℕ) → Ret v at s v' at' t → Begun ret_s s t
    go at s v' at' t ret = by_null refl refl

-- a byte
abbrev pub byte_s : Class → Shape
byte_s c = record { null = false; first = c; follow = [] }

pub byte_ll : (c : Class) (b₀ : ℕ) → is c b₀ ≡ true → Ll (byte_s c) (Byte (is c)) (byte_r (is c))
byte_ll c b₀ e = record { exact = weaken 1 (bar (Starts (is []))) (omega arith) (within_none _) (byte_exact (is c) b₀ e); begun = go; firm = firm_byte }
  where
    go : (at : ℕ) (s : List ℕ) (v at' : ℕ) (t : List ℕ) → Byte (is c) at s v at' t → Begun (byte_s c) s t
    go at s v at' t (byte x) = by_first x

    firm_byte : (at : ℕ) (s : List ℕ) → Firm (byte_r (is c) at s)
    firm_byte at [] = f_bad
    firm_byte at (b ∷ s) = firm_pick (is c b) f_ok f_bad

-- one after the other
abbrev pub seq_s : Shape → Shape → Shape
seq_s σ τ =
    record {
      null = and σ.null τ.null;
      first = σ.first ++ when σ.null τ.first;
      follow = τ.follow ++ when τ.null σ.follow;
    }

pub need_and : (a b : Bool) → need (and a b) ≤ need a + need b
need_and true b = omega arith
need_and false b = omega arith

first_of : (n : Bool) (c : Class) (t : List ℕ) → n ≡ true → Starts (is c) t → Starts (is (when n c)) t
first_of true c t e x = x
first_of false c t e x = absurd (clash e refl)

and_true : (a b : Bool) → a ≡ true → b ≡ true → and a b ≡ true
and_true true b p q = q
and_true false b p q = p

pub begun_seq : (σ τ : Shape) {s m t : List ℕ} → Begun σ s m → Begun τ m t → Begun (seq_s σ τ) s t
begun_seq σ τ {s} (by_first z) w = by_first (starts_left σ.first (when σ.null τ.first) s z)
begun_seq σ τ {s} (by_null n z) (by_first w) =
    by_first (starts_right σ.first (when σ.null τ.first) s (first_of σ.null τ.first s n (subst (λ (l : List ℕ). Starts (is τ.first) l) (sym z) w)))
begun_seq σ τ (by_null n z) (by_null n' w) = by_null (and_true σ.null τ.null n n') (z ∙ w)

module _ {X Y : Type 0} {σ τ : Shape} {A : Lang X} {B : X → Lang Y} {r : Reader X} {q : X → Reader Y} (e : apart τ.first σ.follow ≡ true)
    (la : Ll σ A r) (lb : (x : X) → Ll τ (B x) (q x)) where
  seq_apart : (x : X) (at : ℕ) (s : List ℕ) (y : Y) (at' : ℕ) (t : List ℕ) → B x at s y at' t
      → (Starts (is (seq_s σ τ).follow) t → ⊥) → Starts (is σ.follow) s → ⊥
  seq_apart x at s y at' t b g f = go ((lb x).begun at s y at' t b)
    where
      go : Begun τ s t → ⊥
      go (by_first z) = starts_none τ.first σ.follow s e z f
      go (by_null n z) =
          g (starts_right τ.follow (when τ.null σ.follow) t (first_of τ.null σ.follow t n (subst (λ (l : List ℕ). Starts (is σ.follow) l) z f)))

  seq_begun : (at : ℕ) (s : List ℕ) (v : Y) (at' : ℕ) (t : List ℕ) → Seq A B at s v at' t → Begun (seq_s σ τ) s t
  seq_begun at s v at' t x = begun_seq σ τ (la.begun at s x.value x.middle x.rest x.first) ((lb x.value).begun x.middle x.rest v at' t x.second)

  pub seq_ll : Ll (seq_s σ τ) (Seq A B) (seq_r r q)
  seq_ll =
      record {
        exact =
            weaken
            (need (and σ.null τ.null))
            (bar (Starts (is (seq_s σ τ).follow)))
            (need_and σ.null τ.null)
            (within_same _)
            (seq_exact
            la.exact
            (λ x. weaken (need τ.null) (bar (Starts (is (seq_s σ τ).follow))) (omega arith) (within_bar _ _ (λ t y. starts_left τ.follow (when τ.null σ.follow) t y)) (lb x).exact)
            seq_apart);
        begun = seq_begun;
        firm = λ at s. firm_bind q (la.firm at s) (λ x a t. (lb x).firm a t);
      }

-- one or the other; the first is never empty
abbrev pub alt_s : Shape → Shape → Shape
alt_s σ τ = record { null = τ.null; first = σ.first ++ τ.first; follow = (σ.follow ++ τ.follow) ++ when τ.null σ.first }

-- what is never empty begins with a byte of its class
pub begun_starts : (σ : Shape) {s t : List ℕ} → σ.null ≡ false → Begun σ s t → Starts (is σ.first) s
begun_starts σ n (by_first z) = z
begun_starts σ n (by_null m z) = absurd (clash m n)

pub begun_two : (σ τ : Shape) {s t : List ℕ} → Begun τ s t → Begun (alt_s σ τ) s t
begun_two σ τ {s} (by_first z) = by_first (starts_right σ.first τ.first s z)
begun_two σ τ (by_null m z) = by_null m z

pub need_le : (a : Bool) → need a ≤ 1
need_le true = omega arith
need_le false = omega arith

pub need_false : (a : Bool) → a ≡ false → 1 ≤ need a
need_false true e = absurd (clash refl e)
need_false false e = omega arith

module _ {X : Type 0} {σ τ : Shape} {A B : Lang X} {r q : Reader X} (n : σ.null ≡ false) (e : apart τ.first σ.first ≡ true) (la : Ll σ A r) (lb : Ll τ B q) where
  alt_starts : (at : ℕ) (s : List ℕ) (v : X) (at' : ℕ) (t : List ℕ) → A at s v at' t → Starts (is σ.first) s
  alt_starts at s v at' t x = begun_starts σ n (la.begun at s v at' t x)

  alt_avoids : (at : ℕ) (s : List ℕ) (v : X) (at' : ℕ) (t : List ℕ) → B at s v at' t → (Starts (is (alt_s σ τ).follow) t → ⊥) → Starts (is σ.first) s → ⊥
  alt_avoids at s v at' t x g f = go (lb.begun at s v at' t x)
    where
      go : Begun τ s t → ⊥
      go (by_first z) = starts_none τ.first σ.first s e z f
      go (by_null m z) =
          g
          (starts_right
          (σ.follow ++ τ.follow)
          (when τ.null σ.first)
          t
          (first_of τ.null σ.first t m (subst (λ (l : List ℕ). Starts (is σ.first) l) z f)))

  alt_begun : (at : ℕ) (s : List ℕ) (v : X) (at' : ℕ) (t : List ℕ) → Alt A B at s v at' t → Begun (alt_s σ τ) s t
  alt_begun at s v at' t (one x) = by_first (starts_left σ.first τ.first s (alt_starts at s v at' t x))
  alt_begun at s v at' t (two x) = begun_two σ τ (lb.begun at s v at' t x)

  pub alt_ll : Ll (alt_s σ τ) (Alt A B) (alt_r (is σ.first) r q)
  alt_ll =
      record {
        exact =
            alt_exact
            (is σ.first)
            alt_starts
            alt_avoids
            (weaken
            (need τ.null)
            (bar (Starts (is (alt_s σ τ).follow)))
            (omega (arith, need_le τ.null, need_false σ.null n))
            (within_bar _ _ (λ t x. starts_left (σ.follow ++ τ.follow) (when τ.null σ.first) t (starts_left σ.follow τ.follow t x)))
            la.exact)
            (weaken
            (need τ.null)
            (bar (Starts (is (alt_s σ τ).follow)))
            (omega arith)
            (within_bar _ _ (λ t x. starts_left (σ.follow ++ τ.follow) (when τ.null σ.first) t (starts_right σ.follow τ.follow t x)))
            lb.exact);
        begun = alt_begun;
        firm = firm_alt;
      }
    where
      firm_alt : (at : ℕ) (s : List ℕ) → Firm (alt_r (is σ.first) r q at s)
      firm_alt at [] = lb.firm at []
      firm_alt at (b ∷ s) = firm_pick (is σ.first b) (la.firm at (b ∷ s)) (lb.firm at (b ∷ s))

-- as many as there are, none of which is empty
abbrev pub star_s : Shape → Shape
star_s σ = record { null = true; first = σ.first; follow = σ.follow ++ σ.first }

module _ {X : Type 0} {σ : Shape} {A : Lang X} {r : Reader X} (n : σ.null ≡ false) (e : apart σ.first σ.follow ≡ true) (la : Ll σ A r) where
  star_starts : (at : ℕ) (s : List ℕ) (v : X) (at' : ℕ) (t : List ℕ) → A at s v at' t → Starts (is σ.first) s × (Starts (is σ.follow) s → ⊥)
  star_starts at s v at' t x =
      let z = begun_starts σ n (la.begun at s v at' t x) in
      (z, λ y. starts_none σ.first σ.follow s e z y)

  star_begun : (at : ℕ) (s : List ℕ) (v : List X) (at' : ℕ) (t : List ℕ) → Star A at s v at' t → Begun (star_s σ) s t
  star_begun at s v at' t nil = by_null refl refl
  star_begun at s v at' t (cons {v = x} {at₁ = a₁} {s₁ = s₁} y z) = by_first (star_starts at s x a₁ s₁ y).0

  or_follow : (t : List ℕ) → Or (Starts (is σ.follow)) (is σ.first) t → Starts (is (star_s σ).follow) t
  or_follow t (inl x) = starts_left σ.follow σ.first t x
  or_follow t (inr x) = starts_right σ.follow σ.first t x

  pub star_ll : Ll (star_s σ) (Star A) (many_r (is σ.first) r)
  star_ll =
      record {
        exact =
            weaken
            0
            (bar (Starts (is (star_s σ).follow)))
            (omega arith)
            (within_bar _ _ or_follow)
            (star_exact
            (is σ.first)
            star_starts
            (weaken 1 (bar (Starts (is σ.follow))) (need_false σ.null n) (within_same _) la.exact));
        begun = star_begun;
        firm = λ at s. firm_star (length s) at s;
      }
    where
      firm_star : (n at : ℕ) (s : List ℕ) → Firm (star_r (is σ.first) r n at s)
      firm_star zero at s = f_ok
      firm_star (suc n) at [] = f_ok
      firm_star (suc n) at (b ∷ s) =
          firm_pick (is σ.first b) (firm_bind (λ v a t. fmap (v ∷◌) (star_r (is σ.first) r n a t)) (la.firm at (b ∷ s)) (λ v a t. firm_fmap (v ∷◌) (firm_star n a t))) f_ok

-- less is said
pub begun_inside : (σ τ : Shape) {s t : List ℕ} → σ.null ≡ τ.null → sub σ.first τ.first ≡ true → Begun σ s t → Begun τ s t
begun_inside σ τ {s} n e (by_first z) = by_first (starts_inside σ.first τ.first s e z)
begun_inside σ τ n e (by_null m z) = by_null (sym n ∙ m) z

pub relax : {X : Type 0} {σ : Shape} (τ : Shape) {A : Lang X} {r : Reader X} → σ.null ≡ τ.null → sub σ.first τ.first ≡ true → sub σ.follow τ.follow ≡ true
    → Ll σ A r → Ll τ A r
relax {X} {σ} τ {A} n e g la =
    record {
      exact = weaken (need τ.null) (bar (Starts (is τ.follow))) (rw n (omega arith)) (within_bar _ _ (λ t x. starts_inside σ.follow τ.follow t g x)) la.exact;
      begun = λ at s v at' t x. begun_inside σ τ n e (la.begun at s v at' t x);
      firm = la.firm;
    }

abbrev pub here_r : Reader ℕ
here_r at s = ok at at s

here_then : {W : Type 0} {at : ℕ} {s : List ℕ} {v at' : ℕ} {s' : List ℕ} {w : W} (K : ℕ → ℕ → Tail W) → Here at s v at' s' → K v at' s' w → K at at s w
here_then K here x = x

pub here_ll : Ll ret_s Here here_r
here_ll =
    record {
      exact =
          record {
            run = λ K k ne fi at s h.
                same
                (λ t w x. record { value = at; next = at; rest = t; first = here; others = x })
                (λ t w x. here_then K x.first x.others)
                (h at at s (omega arith));
            some = λ K ne at. record { more = (ne at at).more; value = (ne at at).value; word = record { value = at; next = at; rest = _; first = here; others = (ne at at).word } };
            moves = record { tame = λ at s. t_ok (moves_none at s) };
          };
      begun = go;
      firm = λ at s. f_ok;
    }
  where
    go : (at : ℕ) (s : List ℕ) (v' : ℕ) (at' : ℕ) (t : List ℕ) → Here at s v' at' t → Begun ret_s s t
    go at s v' at' t here = by_null refl refl

abbrev pub word_r : List ℕ → Reader ℕ
word_r [] = ret_r 0
word_r (b ∷ bs) = seq_r (byte_r (is (only b))) (λ x. word_r bs)

abbrev pub word_s : List ℕ → Shape
word_s [] = ret_s
word_s (b ∷ bs) = seq_s (byte_s (only b)) (word_s bs)

pub word_ll : (bs : List ℕ) → Ll (word_s bs) (Word bs) (word_r bs)
word_ll [] = ret_ll 0
word_ll (b ∷ bs) = seq_ll {σ = byte_s (only b)} {τ = word_s bs} (apart_nil (word_s bs).first) (byte_ll (only b) b (only_is b)) (λ x. word_ll bs)

-- one byte
pub byte₁ : (b : ℕ) → Ll (byte_s (only b)) (Byte (is (only b))) (byte_r (is (only b)))
byte₁ b = byte_ll (only b) b (only_is b)
