-- THE KEYS OF A ROAD THAT A TEST KEEPS are a road of their own (`kept_road`): from one it leads to the first kept one behind it (`first_of`). Assumes nothing.
use Rattle.std.specs.Prelude.{◌≡◌, List, [], ◌∷◌, Bool, leb, length}
use Rattle.std.proofs.Math.Path.{refl, ap}
use Rattle.std.proofs.Common.{sym, subst, ◌∙◌, le-leb}
use Rattle.std.proofs.Math.Bool.{true, false}
use Prim.Native.Nat.{ℕ, zero, suc, ◌+◌, ◌≤◌, ◌<◌}
use native.Mathlib.Omega.{arith}
use Rattle.std.proofs.lemmas.Bool.{lt-leb}
use Rattle.language.specs.Kind.{pick}
use Rattle.distinct.specs.Roads.{Road, Walks, walks_end, walks_on, walks_le, walks_next}
use Rattle.distinct.specs.Windows.{Open, open_good}

-- those of a list that are kept
unfoldable pub kept : (ℕ → Bool) → List ℕ → List ℕ
kept f [] = []
kept f (r ∷ rs) = pick (f r) (r ∷ kept f rs) (kept f rs)

module _ (D : Road) (f : ℕ → Bool) where
  -- the first kept one from p on, or the end; the first number is how many are looked at
  unfoldable pub firsts : ℕ → ℕ → ℕ
  firsts zero p = D.stop
  firsts (suc n) p = pick (leb D.stop p) D.stop (pick (f p) p (firsts n (D.next p)))

  unfoldable pub first_of : ℕ → ℕ
  first_of p = firsts (suc D.stop) p

  -- .. by the keys from p on
  unfoldable first_in : List ℕ → ℕ
  first_in [] = D.stop
  first_in (r ∷ rs) = pick (f r) r (first_in rs)

  key_low : {r : ℕ} → D.Good r → r < D.stop
  key_low {r} g = omega (arith, D.onward r g, D.below r g)

  walks_few : {p : ℕ} {rs : List ℕ} → Walks D p rs → p + length rs ≤ D.stop
  walks_few walks_end = omega arith
  walks_few (walks_on {r = r} g w) = let l = D.onward r g in let m = walks_few w in omega arith

  firsts_in_lem : {p : ℕ} {rs : List ℕ} → Walks D p rs → (n : ℕ) → length rs < n → firsts n p ≡ first_in rs
  unfolding firsts first_in
  firsts_in_lem walks_end zero l = absurd (omega arith)
  firsts_in_lem walks_end (suc n) l = rw (le-leb D.stop D.stop (omega arith)) refl
  firsts_in_lem (walks_on g w) zero l = absurd (omega arith)
  firsts_in_lem (walks_on {r = r} g w) (suc n) l = let e = firsts_in_lem w n (omega arith) in rw (lt-leb D.stop r (key_low g)) (ap (λ z. pick (f r) r z) e)

  first_in_lem : {p : ℕ} {rs : List ℕ} → Walks D p rs → first_of p ≡ first_in rs
  unfolding first_of
  first_in_lem w = firsts_in_lem w (suc D.stop) (let l = walks_few w in omega arith)

  in_bounds : {p : ℕ} {rs : List ℕ} → Walks D p rs → (p ≤ first_in rs) × (first_in rs ≤ D.stop)
  unfolding first_in
  in_bounds walks_end = (omega arith, omega arith)
  in_bounds (walks_on {r = r} {rs = rs} g w) = by (f r) (in_bounds w)
    where
      by : (b : Bool) → (D.next r ≤ first_in rs) × (first_in rs ≤ D.stop) → (r ≤ pick b r (first_in rs)) × (pick b r (first_in rs) ≤ D.stop)
      by true h = let l = key_low g in (omega arith, omega arith)
      by false h = (let l = D.onward r g in omega (arith, h.0), h.1)

  -- a key that is kept, with all keys behind it
  pub record Kept (r : ℕ) : Type 0 where
    pub keys : Open D r
    pub low : r < D.stop
    pub pass : f r ≡ true

  pub kept_next : {r : ℕ} → Kept r → (us : List ℕ) × (D.next r ≤ first_of (D.next r)) × (first_of (D.next r) ≤ D.stop)
  kept_next {r} k =
      let z = walks_next D k.keys.walks k.low in
      let b = in_bounds z.3 in
      let e = first_in_lem z.3 in
      (z.0, omega (arith, b.0), omega (arith, b.1))

  abbrev pub kept_road : Road
  kept_road =
      record {
        stop = D.stop;
        next = λ r. first_of (D.next r);
        text = D.text;
        Good = Kept;
        onward = λ r k. let z = kept_next k in let l = D.onward r (open_good D r k.keys k.low) in omega (arith, z.1);
        below = λ r k. (kept_next k).2;
      }

  walks_kept : {p : ℕ} {rs : List ℕ} → Walks D p rs → Walks kept_road (first_in rs) (kept f rs)
  unfolding first_in kept
  walks_kept walks_end = walks_end
  walks_kept (walks_on {r = r} {rs = rs} g w) = by (f r) refl (walks_kept w)
    where
      by : (b : Bool) → f r ≡ b → Walks kept_road (first_in rs) (kept f rs) → Walks kept_road (pick b r (first_in rs)) (pick b (r ∷ kept f rs) (kept f rs))
      by true e h =
          walks_on (record { keys = record { rows = r ∷ rs; walks = walks_on g w }; low = key_low g; pass = e })
          (subst (λ (q : ℕ). Walks kept_road q (kept f rs)) (sym (first_in_lem w)) h)
      by false e h = h

  pub walks_to : {p : ℕ} {rs : List ℕ} → Walks D p rs → Walks kept_road (first_of p) (kept f rs)
  walks_to {p} {rs} w = subst (λ (q : ℕ). Walks kept_road q (kept f rs)) (sym (first_in_lem w)) (walks_kept w)

  -- ---- as code finds them

  module _ (p : ℕ) (k : Open D p) where
    pub kept_open : Open kept_road (first_of p)
    kept_open = record { rows = kept f k.rows; walks = walks_to k.walks }

    pub first_le : p ≤ first_of p
    first_le = let b = in_bounds k.walks in let e = first_in_lem k.walks in omega (arith, b.0)

    pub first_over : D.stop ≤ p → p ≡ first_of p
    first_over l =
        let b = in_bounds k.walks in
        let m = walks_le D k.walks in
        let e = first_in_lem k.walks in
        omega (arith, b.0, b.1)

    module _ (l : p < D.stop) where
      step : (b : Bool) → f p ≡ b → first_of p ≡ pick b p (first_of (D.next p))
      unfolding first_in
      step b e =
          let z = walks_next D k.walks l in
          first_in_lem k.walks ∙ (ap first_in z.1 ∙ (ap (λ c. pick c p (first_in z.0)) e ∙ ap (λ q. pick b p q) (sym (first_in_lem z.3))))

      pub first_here : f p ≡ true → p ≡ first_of p
      first_here e = sym (step true e)

      pub first_later : f p ≡ false → first_of (D.next p) ≡ first_of p
      first_later e = sym (step false e)

  -- what stands on the road of those kept stands on the whole road
  pub whole_open : (p : ℕ) → Open kept_road p → Open D p
  whole_open p k = by k.walks
    where
      by : {q : ℕ} {rs : List ℕ} → Walks kept_road q rs → Open D q
      by walks_end = record { rows = []; walks = walks_end }
      by (walks_on g w) = g.keys

  pub first_fixed : (p : ℕ) → Open kept_road p → p ≡ first_of p
  first_fixed p k = by k.walks
    where
      by : {q : ℕ} {rs : List ℕ} → Walks kept_road q rs → q ≡ first_of q
      by walks_end = first_over D.stop (record { rows = []; walks = walks_end }) (omega arith)
      by (walks_on {r = r} g w) = first_here r g.keys g.low g.pass
