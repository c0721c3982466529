-- KEYS THAT ARE APART: no two of all have one text exactly if no two of those kept have, and none of the others has that of another key (`Alone`). Assumes nothing.
use Rattle.std.specs.Prelude.{◌≡◌, Bool, ℕ, ◌≤◌, ◌<◌}
use Rattle.std.proofs.Math.Path.{refl}
use Rattle.std.proofs.Common.{sym, ap, subst, ◌∙◌, arith}
use mathlib.Core.List.{List, [], ◌∷◌}
use Rattle.std.proofs.Math.Bool.{true, false}
use Rattle.exact.specs.Tells.{Tells}
use Rattle.language.specs.Kind.{pick}
use Rattle.distinct.specs.Roads.{Road, Walks, walks_end, walks_on, walks_next, Among, among_here, among_later, Apart, apart_none, apart_more, apart_rest, Comes, comes_on, comes_here, comes_never, comes_end, comes_none, ApartTold}
use Rattle.distinct.specs.Windows.{Going, open_next}
use Rattle.cutkeys.specs.Kept.{kept, first_of, kept_road, walks_to}

-- p is one of these
pub data In (p : ℕ) : List ℕ → Type 0 where
  in_here : {rs : List ℕ} → In p (p ∷ rs)
  in_later : {q : ℕ} {rs : List ℕ} → In p rs → In p (q ∷ rs)

-- one of these other than p has the text s
pub data Other (text : ℕ → List ℕ) (p : ℕ) (s : List ℕ) : List ℕ → Type 0 where
  other_here : {q : ℕ} {rs : List ℕ} → (q ≡ p → ⊥) → s ≡ text q → Other text p s (q ∷ rs)
  other_later : {q : ℕ} {rs : List ℕ} → Other text p s rs → Other text p s (q ∷ rs)

pub none_other : {text : ℕ → List ℕ} {p : ℕ} {s : List ℕ} → Other text p s [] → ⊥
none_other x = elim x [ ]

module _ (text : ℕ → List ℕ) where
  other_among : {p : ℕ} {s : List ℕ} {rs : List ℕ} → Other text p s rs → Among text s rs
  other_among (other_here n e) = among_here e
  other_among (other_later x) = among_later (other_among x)

  pub in_among : {p : ℕ} {s : List ℕ} {rs : List ℕ} → In p rs → s ≡ text p → Among text s rs
  in_among in_here e = among_here e
  in_among (in_later x) e = among_later (in_among x e)

  pub among_in : {s : List ℕ} {rs : List ℕ} → Among text s rs → (q : ℕ) × In q rs × (s ≡ text q)
  among_in (among_here {q = q} e) = (q, in_here, e)
  among_in (among_later x) = let z = among_in x in (z.0, in_later z.1, z.2)

  apart_lone : {p : ℕ} {rs : List ℕ} → Apart text rs → In p rs → Other text p (text p) rs → ⊥
  apart_lone {p = p} apart_none x5 _ = elim x5 [ ]
  apart_lone (apart_more n x) in_here (other_here f e) = f refl
  apart_lone (apart_more n x) in_here (other_later o) = n (other_among o)
  apart_lone (apart_more n x) (in_later i) (other_here f e) = n (in_among i (sym e))
  apart_lone (apart_more n x) (in_later i) (other_later o) = apart_lone x i o

  module _ (f : ℕ → Bool) where
    pub among_kept : {s : List ℕ} (rs : List ℕ) → Among text s (kept f rs) → Among text s rs
    unfolding kept
    among_kept [] x = x
    among_kept {s} (r ∷ rs) x = by (f r) (λ y. among_kept rs y) x
      where
        by : (b : Bool) → (Among text s (kept f rs) → Among text s rs) → Among text s (pick b (r ∷ kept f rs) (kept f rs)) → Among text s (r ∷ rs)
        by true g (among_here e) = among_here e
        by true g (among_later y) = among_later (g y)
        by false g y = among_later (g y)

    kept_apart : (rs : List ℕ) → Apart text rs → Apart text (kept f rs)
    unfolding kept
    kept_apart [] x = apart_none
    kept_apart (r ∷ rs) (apart_more n x) = by (f r) (kept_apart rs x)
      where
        by : (b : Bool) → Apart text (kept f rs) → Apart text (pick b (r ∷ kept f rs) (kept f rs))
        by true y = apart_more (λ z. n (among_kept rs z)) y
        by false y = y

    pub in_kept : {q : ℕ} {rs : List ℕ} → In q rs → f q ≡ true → In q (kept f rs)
    unfolding kept
    in_kept {q} (in_here {rs = rs}) e = rw e in_here
    in_kept {q} (in_later {q = r} {rs = rs} i) e = by (f r) (in_kept i e)
      where
        by : (b : Bool) → In q (kept f rs) → In q (pick b (r ∷ kept f rs) (kept f rs))
        by true y = in_later y
        by false y = y

module _ (D : Road) where
  pub above : {p q : ℕ} {rs : List ℕ} → Walks D p rs → In q rs → p ≤ q
  above {q = q} walks_end x4 = elim x4 [ ]
  above (walks_on g w) in_here = omega arith
  above (walks_on {r = r} g w) (in_later i) = let l = above w i in omega (arith, D.onward r g)

  pub among_other : {p r : ℕ} {s : List ℕ} {rs : List ℕ} → Walks D p rs → r < p → Among D.text s rs → Other D.text r s rs
  among_other {r = r} {s = s} walks_end l x7 = elim x7 [ ]
  among_other {r = r} (walks_on {r = q} g w) l (among_here e) = other_here (λ (z : q ≡ r). omega arith) e
  among_other (walks_on {r = q} g w) l (among_later x) = other_later (among_other w (omega (arith, D.onward q g)) x)

  over : {r : ℕ} {rs : List ℕ} → Walks D r rs → D.stop ≤ r → rs ≡ []
  over walks_end l = refl
  over (walks_on {r = r} g w) l = absurd (omega (arith, D.onward r g, D.below r g))

  pub walks_same : {p : ℕ} {rs us : List ℕ} → Walks D p rs → Walks D p us → rs ≡ us
  walks_same walks_end u = sym (over u (omega arith))
  walks_same (walks_on {r = r} g w) u =
      let z = walks_next D u (omega (arith, D.onward r g, D.below r g)) in
      ap (λ (l : List ℕ). r ∷ l) (walks_same w z.3) ∙ sym z.1

  -- what is told of a key: whether another one has its text
  abbrev pub OtherTold : ℕ → ℕ → Bool → Type 0
  OtherTold from p b = (rs : List ℕ) → Walks D from rs → Tells (Other D.text p (D.text p) rs) b

  module _ (f : ℕ → Bool) where
    -- none of these that is not kept has the text of another key from `from` on
    abbrev pub Alone : ℕ → List ℕ → Type 0
    Alone from us = (p : ℕ) → In p us → f p ≡ false → (rs : List ℕ) → Walks D from rs → Other D.text p (D.text p) rs → ⊥

    abbrev pub AloneTold : ℕ → Bool → Type 0
    AloneTold from b = (rs : List ℕ) → Walks D from rs → Tells (Alone from rs) b

    -- of one key: it is not kept and another has its text, or not both
    abbrev pub LoneTold : ℕ → ℕ → Bool → Type 0
    LoneTold from p true = (f p ≡ false) × OtherTold from p true
    LoneTold from p false = f p ≡ false → OtherTold from p false

    -- ---- THE LAW

    apart_alone : {from : ℕ} {rs : List ℕ} → Walks D from rs → Apart D.text rs → Alone from rs
    apart_alone {from} {rs} w x p i e us u o = apart_lone D.text x i (subst (Other D.text p (D.text p)) (walks_same u w) o)

    alone_apart : {from : ℕ} {rs : List ℕ} → Walks D from rs → ((q : ℕ) → In q rs → f q ≡ false → Other D.text q (D.text q) rs → ⊥) → Apart D.text (kept f rs) → Apart D.text rs
    unfolding kept
    alone_apart walks_end h x = apart_none
    alone_apart (walks_on {r = r} {rs = us} g w) h x = apart_more (none (f r) refl x) (alone_apart w (λ q i e o. h q (in_later i) e (other_later o)) (rest (f r) x))
      where
        rest : (b : Bool) → Apart D.text (pick b (r ∷ kept f us) (kept f us)) → Apart D.text (kept f us)
        rest true y = apart_rest y
        rest false y = y

        both : (q : ℕ) → In q us → D.text r ≡ D.text q → Apart D.text (r ∷ kept f us) → (c : Bool) → f q ≡ c → ⊥
        both q i e (apart_more n y) true z = n (in_among D.text (in_kept D.text f i z) e)
        both q i e y false z = h q (in_later i) z (other_here (λ (k : r ≡ q). let l = above w i in omega (arith, D.onward r g)) (sym e))

        none : (b : Bool) → f r ≡ b → Apart D.text (pick b (r ∷ kept f us) (kept f us)) → Among D.text (D.text r) us → ⊥
        none true e y a = let z = among_in D.text a in both z.0 z.1 z.2 y (f z.0) refl
        none false e y a = h r in_here e (other_later (among_other w (D.onward r g) a))

    pub told_no : (from : ℕ) → ApartTold (kept_road D f) (first_of D f from) false → ApartTold D from false
    told_no from t rs w x = t (kept f rs) (walks_to D f w) (kept_apart D.text f rs x)

    pub told_both : (from : ℕ) → ApartTold (kept_road D f) (first_of D f from) true → (b : Bool) → AloneTold from b → ApartTold D from b
    told_both from t true a rs w = alone_apart w (λ q i e o. a rs w q i e rs w o) (t (kept f rs) (walks_to D f w))
    told_both from t false a rs w = λ x. a rs w (apart_alone w x)

    -- ---- the walk over all keys

    module _ (from r : ℕ) (w : Going D (Alone from) from r) where
      pub alone_over : D.stop ≤ r → AloneTold from true
      alone_over l rs u = comes_end D w.comes l (λ p i. elim i [ ]) rs u

      module _ (l : r < D.stop) (b : Bool) (t : LoneTold from r b) where
        pub alone_met : b ≡ true → AloneTold from false
        alone_met e rs u = let z : LoneTold from r true = rw e at t in comes_never D w.comes l (λ us v y. y r in_here z.0 rs u (z.1 rs u)) rs u

        pub alone_on : b ≡ false → (q : ℕ) → q ≡ D.next r → Going D (Alone from) from q
        alone_on e q h =
            let z : LoneTold from r false = rw e at t in
            record {
              keys = open_next D r w.keys l q h;
              comes = subst (Comes D (Alone from) from) (sym h) (comes_on D w.comes l (λ us v y p i. y p (in_later i)) (λ us v y p i. by z us y p i));
            }
          where
            by : LoneTold from r false → (us : List ℕ) → Alone from us → (p : ℕ) → In p (r ∷ us) → f p ≡ false → (rs : List ℕ) → Walks D from rs → Other D.text p (D.text p) rs → ⊥
            by z us y p in_here e rs u = z e rs u
            by z us y p (in_later i) e rs u = y p i e rs u

  -- ---- the walk that seeks another key with the text of one

  module _ (p : ℕ) (s : List ℕ) (from r : ℕ) (w : Going D (Other D.text p s) from r) where
    pub other_over : D.stop ≤ r → (rs : List ℕ) → Walks D from rs → Other D.text p s rs → ⊥
    other_over l rs u = comes_none D w.comes l none_other rs u

    module _ (l : r < D.stop) where
      pub other_met : (r ≡ p → ⊥) → s ≡ D.text r → (rs : List ℕ) → Walks D from rs → Other D.text p s rs
      other_met n e rs u = comes_here D w.comes l (λ us v. other_here n e) rs u

      pub other_on : ((r ≡ p → ⊥) → s ≡ D.text r → ⊥) → (q : ℕ) → q ≡ D.next r → Going D (Other D.text p s) from q
      other_on n q h =
          record {
            keys = open_next D r w.keys l q h;
            comes = subst (Comes D (Other D.text p s) from) (sym h) (comes_on D w.comes l (λ us v x. by us x) (λ us v x. other_later x));
          }
        where
          by : (us : List ℕ) → Other D.text p s (r ∷ us) → Other D.text p s us
          by us (other_here m e) = absurd (n m e)
          by us (other_later x) = x
