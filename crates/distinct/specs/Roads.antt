-- KEYS ONE BEHIND ANOTHER (`Road`), by their rows in a table or their places in bytes: the keys from here on (`Walks`), that no two have one text (`Apart`),
-- and that what holds of all holds of those from here on, and back (`Comes`). Assumes nothing.
use Rattle.std.specs.Prelude.{◌≡◌, refl, List, [], ◌∷◌, Bool, true, false, ℕ, ◌≤◌, ◌<◌}
use Rattle.std.proofs.Common.{sym, subst, arith}
use Rattle.exact.specs.Tells.{Tells}

-- where the key behind one stands, and its text; one that is good leads on, and not past the end
pub record Road : Type 1 where
  pub stop : ℕ
  pub next : ℕ → ℕ
  pub text : ℕ → List ℕ
  pub Good : ℕ → Type 0
  pub onward : (r : ℕ) → Good r → r < next r
  pub below : (r : ℕ) → Good r → next r ≤ stop

-- the keys from r up to the end
pub data Walks (D : Road) : ℕ → List ℕ → Type 0 where
  walks_end : Walks D D.stop []
  walks_on : {r : ℕ} {rs : List ℕ} → D.Good r → Walks D (D.next r) rs → Walks D r (r ∷ rs)

-- s is the text of one of these
pub data Among (text : ℕ → List ℕ) (s : List ℕ) : List ℕ → Type 0 where
  among_here : {q : ℕ} {rs : List ℕ} → s ≡ text q → Among text s (q ∷ rs)
  among_later : {q : ℕ} {rs : List ℕ} → Among text s rs → Among text s (q ∷ rs)

-- none has the text of a later one
pub data Apart (text : ℕ → List ℕ) : List ℕ → Type 0 where
  apart_none : Apart text []
  apart_more : {r : ℕ} {rs : List ℕ} → (Among text (text r) rs → ⊥) → Apart text rs → Apart text (r ∷ rs)

pub none_among : {text : ℕ → List ℕ} {s : List ℕ} → Among text s [] → ⊥
none_among x = elim x [ ]

pub not_here : {text : ℕ → List ℕ} {s : List ℕ} {r : ℕ} {us : List ℕ} → (s ≡ text r → ⊥) → Among text s (r ∷ us) → Among text s us
not_here n (among_here e) = absurd (n e)
not_here n (among_later x) = x

pub apart_rest : {text : ℕ → List ℕ} {r : ℕ} {us : List ℕ} → Apart text (r ∷ us) → Apart text us
apart_rest (apart_more n x) = x

pub apart_not : {text : ℕ → List ℕ} {r : ℕ} {us : List ℕ} → Among text (text r) us → Apart text (r ∷ us) → ⊥
apart_not a (apart_more n x) = n a

module _ (D : Road) where
  pub walks_le : {r : ℕ} {rs : List ℕ} → Walks D r rs → r ≤ D.stop
  walks_le walks_end = omega arith
  walks_le (walks_on {r = r} k w) = omega (arith, D.onward r k, D.below r k)

  -- the key here, and those behind it
  pub walks_next : {r : ℕ} {rs : List ℕ} → Walks D r rs → r < D.stop → (us : List ℕ) × (rs ≡ r ∷ us) × D.Good r × Walks D (D.next r) us
  walks_next walks_end l = absurd (omega arith)
  walks_next (walks_on {rs = us} k w) l = (us, refl, k, w)

  walks_over : {r : ℕ} {rs : List ℕ} → Walks D r rs → D.stop ≤ r → rs ≡ []
  walks_over walks_end l = refl
  walks_over (walks_on {r = r} k w) l = absurd (omega (arith, D.onward r k, D.below r k))

  -- P OF ALL is P of those from r on
  pub record Comes (P : List ℕ → Type 0) (from r : ℕ) : Type 0 where
    pub to : (rs : List ℕ) → Walks D from rs → List ℕ
    pub walks : (rs : List ℕ) (w : Walks D from rs) → Walks D r (to rs w)
    pub there : (rs : List ℕ) (w : Walks D from rs) → P rs → P (to rs w)
    pub back : (rs : List ℕ) (w : Walks D from rs) → P (to rs w) → P rs

  module _ {P : List ℕ → Type 0} {from : ℕ} where
    pub comes_first : Comes P from from
    comes_first = record { to = λ rs w. rs; walks = λ rs w. w; there = λ rs w x. x; back = λ rs w x. x }

    pub comes_on : {r : ℕ} → Comes P from r → r < D.stop → ((us : List ℕ) → Walks D (D.next r) us → P (r ∷ us) → P us)
        → ((us : List ℕ) → Walks D (D.next r) us → P us → P (r ∷ us)) → Comes P from (D.next r)
    comes_on c l f g =
        record {
          to = λ rs w. (walks_next (c.walks rs w) l).0;
          walks = λ rs w. (walks_next (c.walks rs w) l).3;
          there = λ rs w x. let z = walks_next (c.walks rs w) l in f z.0 z.3 (subst P z.1 (c.there rs w x));
          back = λ rs w x. let z = walks_next (c.walks rs w) l in c.back rs w (subst P (sym z.1) (g z.0 z.3 x));
        }

    -- it holds here, so of all; at the end it is that of none
    pub comes_here : {r : ℕ} → Comes P from r → r < D.stop → ((us : List ℕ) → Walks D (D.next r) us → P (r ∷ us)) → (rs : List ℕ) → Walks D from rs → P rs
    comes_here c l f rs w = let z = walks_next (c.walks rs w) l in c.back rs w (subst P (sym z.1) (f z.0 z.3))

    pub comes_never : {r : ℕ} → Comes P from r → r < D.stop → ((us : List ℕ) → Walks D (D.next r) us → P (r ∷ us) → ⊥) → (rs : List ℕ) → Walks D from rs → P rs → ⊥
    comes_never c l f rs w x = let z = walks_next (c.walks rs w) l in f z.0 z.3 (subst P z.1 (c.there rs w x))

    pub comes_end : {r : ℕ} → Comes P from r → D.stop ≤ r → P [] → (rs : List ℕ) → Walks D from rs → P rs
    comes_end c l x rs w = c.back rs w (subst P (sym (walks_over (c.walks rs w) l)) x)

    pub comes_none : {r : ℕ} → Comes P from r → D.stop ≤ r → (P [] → ⊥) → (rs : List ℕ) → Walks D from rs → P rs → ⊥
    comes_none c l n rs w x = n (subst P (walks_over (c.walks rs w) l) (c.there rs w x))

  -- .. one part of the way after another
  pub comes_both : {P : List ℕ → Type 0} {from r q : ℕ} → Comes P from r → Comes P r q → Comes P from q
  comes_both c d =
      record {
        to = λ rs w. d.to (c.to rs w) (c.walks rs w);
        walks = λ rs w. d.walks (c.to rs w) (c.walks rs w);
        there = λ rs w x. d.there (c.to rs w) (c.walks rs w) (c.there rs w x);
        back = λ rs w x. c.back rs w (d.back (c.to rs w) (c.walks rs w) x);
      }

  -- what is told of the keys from one on: whether one has the text s; whether no two have one text
  abbrev pub AmongTold : List ℕ → ℕ → Bool → Type 0
  AmongTold s from b = (rs : List ℕ) → Walks D from rs → Tells (Among D.text s rs) b

  abbrev pub ApartTold : ℕ → Bool → Type 0
  ApartTold from b = (rs : List ℕ) → Walks D from rs → Tells (Apart D.text rs) b

  -- ---- a text sought among them

  module _ (s : List ℕ) (from r : ℕ) (c : Comes (Among D.text s) from r) where
    pub seek_met : r < D.stop → s ≡ D.text r → AmongTold s from true
    seek_met l e rs w = comes_here c l (λ us v. among_here e) rs w

    pub seek_on : r < D.stop → (s ≡ D.text r → ⊥) → Comes (Among D.text s) from (D.next r)
    seek_on l n = comes_on c l (λ us v x. not_here n x) (λ us v x. among_later x)

    pub seek_over : D.stop ≤ r → AmongTold s from false
    seek_over l rs w = comes_none c l none_among rs w

  -- ---- each sought among those behind it

  module _ (from r : ℕ) (c : Comes (Apart D.text) from r) where
    pub pass_met : r < D.stop → AmongTold (D.text r) (D.next r) true → ApartTold from false
    pass_met l t rs w = comes_never c l (λ us v. apart_not (t us v)) rs w

    pub pass_on : r < D.stop → AmongTold (D.text r) (D.next r) false → Comes (Apart D.text) from (D.next r)
    pass_on l t = comes_on c l (λ us v x. apart_rest x) (λ us v x. apart_more (t us v) x)

    pub pass_over : D.stop ≤ r → ApartTold from true
    pass_over l rs w = comes_end c l apart_none rs w
