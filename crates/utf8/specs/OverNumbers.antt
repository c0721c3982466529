-- A table over bytes, read as a table over the numbers that the bytes make: the state after a number's bytes is found in it, and what it says of all numbers
-- from one to another is found by computing. Assumes nothing.
use Rattle.std.specs.Prelude.{◌≡◌, ◌⊎◌, Bool, leb, ltb, eqb}
use Rattle.std.proofs.Math.Path.{refl}
use Rattle.std.proofs.Common.{sym, ap, ◌∙◌, inl, inr, arith}
use mathlib.Core.List.{List, [], ◌∷◌}
use Rattle.std.proofs.Math.Bool.{true, false}
use Prim.Native.Nat.{ℕ, suc, pred, ◌+◌, ◌-◌, ◌*◌, ◌≤◌, ◌<◌, max, min}
use Rattle.std.proofs.Math.Decide.{dec_le}
use borrow.Author.Tests.{leb-true, ltb-true, eqb-true}
use Rattle.exact.specs.Class.{Class, ◌to◌, pick, and, or, clash, within, is, apart, none, and_of, or_of, and_true, leb_yes, range_of}
use Rattle.utf8.specs.Utf8.{At, Arrow, ◌to-be◌, table, follow, full, next, dead}

pub iff : {a b : Bool} → (a ≡ true → b ≡ true) → (b ≡ true → a ≡ true) → a ≡ b
iff {a} {b} f g = by a b f g
  where
    by : (a b : Bool) → (a ≡ true → b ≡ true) → (b ≡ true → a ≡ true) → a ≡ b
    by true b f g = sym (f refl)
    by false true f g = g refl
    by false false f g = refl

pub within_yes : (l h b : ℕ) → l ≤ b → b ≤ h → within (l to h) b ≡ true
within_yes l h b x y = and_true (leb_yes l b x) (leb_yes b h y)

-- ONE BYTE MORE. From a number n the byte 128 + x makes 64 n + x; from l .. h the bytes of a class make these
unfoldable pub image : ℕ → ℕ → Class → Class
image l h [] = []
image l h ((p to q) ∷ c) = (64 * l + (p - 128) to 64 * h + (q - 128)) ∷ image l h c

abbrev tails : ℕ → ℕ → Bool
tails p q = and (leb 128 p) (and (leb p q) (leb q 191))

-- and no others: there is one number only, or each byte may come
unfoldable pub sharp : ℕ → ℕ → Class → Bool
sharp l h [] = true
sharp l h ((p to q) ∷ c) = and (and (tails p q) (or (eqb l h) (and (eqb p 128) (eqb q 191)))) (sharp l h c)

-- the rows for l .. h, at which the machine has the rows t
unfoldable pub block : ℕ → ℕ → List Arrow → List Arrow → List Arrow
block l h [] more = ((64 * l to 64 * h + 63) ∷ [] to-be dead) ∷ more
block l h ((c to-be τ) ∷ t) more = (image l h c to-be τ) ∷ block l h t more

unfoldable pub spread : Class → List Arrow → List Arrow → List Arrow
spread [] t more = more
spread ((l to h) ∷ c) t more = block l h t (spread c t more)

unfoldable pub push : Class → List Arrow → List Arrow
push plain [] = []
push plain ((c to-be σ) ∷ rows) = spread c (table plain σ) (push plain rows)

unfoldable pub sharp_block : ℕ → ℕ → List Arrow → Bool
sharp_block l h [] = true
sharp_block l h ((c to-be τ) ∷ t) = and (sharp l h c) (sharp_block l h t)

unfoldable pub sharp_spread : Class → List Arrow → Bool
sharp_spread [] t = true
sharp_spread ((l to h) ∷ c) t = and (sharp_block l h t) (sharp_spread c t)

unfoldable pub sharp_rows : Class → List Arrow → Bool
sharp_rows plain [] = true
sharp_rows plain ((c to-be σ) ∷ rows) = and (sharp_spread c (table plain σ)) (sharp_rows plain rows)

module _ (n x : ℕ) (small : x < 64) where
  range_image : (l h p q : ℕ) → and (tails p q) (or (eqb l h) (and (eqb p 128) (eqb q 191))) ≡ true
      → within (64 * l + (p - 128) to 64 * h + (q - 128)) (64 * n + x) ≡ and (within (l to h) n) (within (p to q) (128 + x))
  range_image l h p q e = iff split joined
    where
      bounds : (128 ≤ p) × (p ≤ q) × (q ≤ 191)
      bounds =
          let y = and_of (leb 128 p) (and (leb p q) (leb q 191)) (and_of (tails p q) (or (eqb l h) (and (eqb p 128) (eqb q 191))) e).0 in
          let z = and_of (leb p q) (leb q 191) y.1 in
          (leb-true 128 p y.0, leb-true p q z.0, leb-true q 191 z.1)

      inner : (eqb l h ≡ true) ⊎ (and (eqb p 128) (eqb q 191) ≡ true) → (64 * l + (p - 128) ≤ 64 * n + x) × (64 * n + x ≤ 64 * h + (q - 128)) → (p ≤ 128 + x) × (128 + x ≤ q)
      inner (inl y) z = let u = eqb-true l h y in (omega (arith, bounds), omega (arith, bounds))
      inner (inr y) z =
          let w = and_of (eqb p 128) (eqb q 191) y in
          let u = eqb-true p 128 w.0 in
          let v = eqb-true q 191 w.1 in
          (omega arith, omega arith)

      split : within (64 * l + (p - 128) to 64 * h + (q - 128)) (64 * n + x) ≡ true → and (within (l to h) n) (within (p to q) (128 + x)) ≡ true
      split y =
          let z = range_of (64 * l + (p - 128)) (64 * h + (q - 128)) (64 * n + x) y in
          let i = inner (or_of (eqb l h) (and (eqb p 128) (eqb q 191)) (and_of (tails p q) (or (eqb l h) (and (eqb p 128) (eqb q 191))) e).1) z in
          and_true (within_yes l h n (omega (arith, bounds)) (omega (arith, bounds))) (within_yes p q (128 + x) i.0 i.1)

      joined : and (within (l to h) n) (within (p to q) (128 + x)) ≡ true → within (64 * l + (p - 128) to 64 * h + (q - 128)) (64 * n + x) ≡ true
      joined y =
          let z = and_of (within (l to h) n) (within (p to q) (128 + x)) y in
          let u = range_of l h n z.0 in
          let v = range_of p q (128 + x) z.1 in
          within_yes (64 * l + (p - 128)) (64 * h + (q - 128)) (64 * n + x) (omega (arith, bounds)) (omega (arith, bounds))

  all_image : (l h : ℕ) → within (64 * l to 64 * h + 63) (64 * n + x) ≡ within (l to h) n
  all_image l h =
      iff
      (λ y. let z = range_of (64 * l) (64 * h + 63) (64 * n + x) y in within_yes l h n (omega arith) (omega arith))
      (λ y. let z = range_of l h n y in within_yes (64 * l) (64 * h + 63) (64 * n + x) (omega arith) (omega arith))

  is_image : (l h : ℕ) (c : Class) → sharp l h c ≡ true → is (image l h c) (64 * n + x) ≡ and (within (l to h) n) (is c (128 + x))
  unfolding image sharp
  is_image l h [] e = by (within (l to h) n)
    where
      by : (w : Bool) → false ≡ and w false
      by true = refl
      by false = refl
  is_image l h ((p to q) ∷ c) e =
      let s = and_of (and (tails p q) (or (eqb l h) (and (eqb p 128) (eqb q 191)))) (sharp l h c) e in
      rw (range_image l h p q s.0, is_image l h c s.1) (by (within (l to h) n))
    where
      by : (w : Bool) → or (and w (within (p to q) (128 + x))) (and w (is c (128 + x))) ≡ and w (or (within (p to q) (128 + x)) (is c (128 + x)))
      by true = refl
      by false = refl

  in_block : (l h : ℕ) (t more : List Arrow) → sharp_block l h t ≡ true
      → follow (block l h t more) (64 * n + x) ≡ pick (within (l to h) n) (follow t (128 + x)) (follow more (64 * n + x))
  unfolding block sharp_block
  in_block l h [] more e = rw (all_image l h) (by (within (l to h) n))
    where
      by : (w : Bool) → pick (or w false) dead (follow more (64 * n + x)) ≡ pick w dead (follow more (64 * n + x))
      by true = refl
      by false = refl
  in_block l h ((c to-be τ) ∷ t) more e =
      let s = and_of (sharp l h c) (sharp_block l h t) e in
      rw (is_image l h c s.0, in_block l h t more s.1) (by (within (l to h) n))
    where
      by : (w : Bool) → pick (and w (is c (128 + x))) τ (pick w (follow t (128 + x)) (follow more (64 * n + x)))
          ≡ pick w (pick (is c (128 + x)) τ (follow t (128 + x))) (follow more (64 * n + x))
      by true = refl
      by false = refl

  in_spread : (c : Class) (t more : List Arrow) → sharp_spread c t ≡ true
      → follow (spread c t more) (64 * n + x) ≡ pick (is c n) (follow t (128 + x)) (follow more (64 * n + x))
  unfolding spread sharp_spread
  in_spread [] t more e = refl
  in_spread ((l to h) ∷ c) t more e =
      let s = and_of (sharp_block l h t) (sharp_spread c t) e in
      in_block l h t (spread c t more) s.0 ∙ (ap (pick (within (l to h) n) (follow t (128 + x))) (in_spread c t more s.1) ∙ by (within (l to h) n))
    where
      by : (w : Bool) → pick w (follow t (128 + x)) (pick (is c n) (follow t (128 + x)) (follow more (64 * n + x)))
          ≡ pick (or w (is c n)) (follow t (128 + x)) (follow more (64 * n + x))
      by true = refl
      by false = refl

  pub pushed : (plain : Class) (rows : List Arrow) → sharp_rows plain rows ≡ true → follow (push plain rows) (64 * n + x) ≡ next plain (follow rows n) (128 + x)
  unfolding push sharp_rows
  pushed plain [] e = refl
  pushed plain ((c to-be σ) ∷ rows) e =
      let s = and_of (sharp_spread c (table plain σ)) (sharp_rows plain rows) e in
      in_spread c (table plain σ) (push plain rows) s.0
      ∙ (ap (pick (is c n) (next plain σ (128 + x))) (pushed plain rows s.1) ∙ by (is c n))
    where
      by : (w : Bool) → pick w (next plain σ (128 + x)) (next plain (follow rows n) (128 + x)) ≡ next plain (pick w σ (follow rows n)) (128 + x)
      by true = refl
      by false = refl

-- FROM ONE NUMBER TO ANOTHER each is sent to a state that passes a test. Each range of a class cuts out its part: t, and the others by k
unfoldable pub through : Bool → Class → (ℕ → ℕ → Bool) → ℕ → ℕ → Bool
through t [] k l h = k l h
through t ((l' to h') ∷ c) k l h =
    elim (ltb h l) [
      | true ↦ true
      | false ↦ elim (or (ltb h l') (ltb h' l)) [
        | true ↦ through t c k l h
        | false ↦ and t (and (through t c k l (pred l')) (through t c k (suc h') h))
      ]
    ]

unfoldable pub says : (At → Bool) → List Arrow → ℕ → ℕ → Bool
says T [] l h = or (ltb h l) (T dead)
says T ((c to-be τ) ∷ rows) l h = through (T τ) c (says T rows) l h

module _ (v : ℕ) where
  through_yes : (t : Bool) (c : Class) (k : ℕ → ℕ → Bool) (K : Bool) → ((l h : ℕ) → k l h ≡ true → l ≤ v → v ≤ h → K ≡ true)
      → (l h : ℕ) → through t c k l h ≡ true → l ≤ v → v ≤ h → pick (is c v) t K ≡ true
  unfolding through
  through_yes t [] k K g l h e x y = g l h e x y
  through_yes t ((l' to h') ∷ c) k K g l h e x y = by (through_yes t c k K g) (ltb h l) refl (or (ltb h l') (ltb h' l)) refl e
    where
      Others : Type 0
      Others = (l h : ℕ) → through t c k l h ≡ true → l ≤ v → v ≤ h → pick (is c v) t K ≡ true

      out : (v < l') ⊎ (h' < v) → within (l' to h') v ≡ false
      out o = no (within (l' to h') v) refl o
        where
          no : (w : Bool) → within (l' to h') v ≡ w → (v < l') ⊎ (h' < v) → w ≡ false
          no true e (inl o) = absurd (omega (arith, range_of l' h' v e))
          no true e (inr o) = absurd (omega (arith, range_of l' h' v e))
          no false e o = refl

      off : (v < l') ⊎ (h' < v) → pick (is c v) t K ≡ true → pick (or (within (l' to h') v) (is c v)) t K ≡ true
      off o z = rw (out o) z

      side : (ltb h l' ≡ true) ⊎ (ltb h' l ≡ true) → (v < l') ⊎ (h' < v)
      side (inl z) = inl (omega (arith, ltb-true h l' z))
      side (inr z) = inr (omega (arith, ltb-true h' l z))

      cut : Others → t ≡ true → through t c k l (pred l') ≡ true → through t c k (suc h') h ≡ true → Dec (l' ≤ v) → Dec (v ≤ h') → pick (or (within (l' to h') v) (is c v)) t K ≡ true
      cut ih z a b (yes p) (yes q) = rw (within_yes l' h' v p q) z
      cut ih z a b (no p) d = off (inl (omega arith)) (ih l (pred l') a x (omega arith))
      cut ih z a b (yes p) (no q) = off (inr (omega arith)) (ih (suc h') h b (omega arith) y)

      by : Others → (u : Bool) → ltb h l ≡ u → (w : Bool) → or (ltb h l') (ltb h' l) ≡ w
          → elim u [ true ↦ true | false ↦ elim w [ true ↦ through t c k l h | false ↦ and t (and (through t c k l (pred l')) (through t c k (suc h') h)) ] ] ≡ true
          → pick (or (within (l' to h') v) (is c v)) t K ≡ true
      by ih true a w b z = absurd (omega (arith, ltb-true h l a))
      by ih false a true b z = off (side (or_of (ltb h l') (ltb h' l) b)) (ih l h z x y)
      by ih false a false b z =
          let u = and_of t (and (through t c k l (pred l')) (through t c k (suc h') h)) z in
          let w = and_of (through t c k l (pred l')) (through t c k (suc h') h) u.1 in
          cut ih u.0 w.0 w.1 (dec_le l' v) (dec_le v h')

  pub says_yes : (T : At → Bool) (rows : List Arrow) (l h : ℕ) → says T rows l h ≡ true → l ≤ v → v ≤ h → T (follow rows v) ≡ true
  unfolding says
  says_yes T [] l h e x y = by (or_of (ltb h l) (T dead) e)
    where
      by : (ltb h l ≡ true) ⊎ (T dead ≡ true) → T dead ≡ true
      by (inl z) = absurd (omega (arith, ltb-true h l z))
      by (inr z) = z
  says_yes T ((c to-be τ) ∷ rows) l h e x y = by (is c v) (through_yes (T τ) c (says T rows) (T (follow rows v)) (says_yes T rows) l h e x y)
    where
      by : (w : Bool) → pick w (T τ) (T (follow rows v)) ≡ true → T (pick w τ (follow rows v)) ≡ true
      by true z = z
      by false z = z

-- A CLASS IN A TABLE: from lo to hi the table ends a character at the numbers of a class, and at no other. The numbers stand in the table moved by `off`
abbrev pub lacks : At → Bool
lacks σ = pick (full σ) false true

pub lacks_no : (σ : At) → lacks σ ≡ true → full σ ≡ false
lacks_no σ e = by (full σ) e
  where
    by : (x : Bool) → pick x false true ≡ true → x ≡ false
    by true y = absurd (clash y refl)
    by false y = refl

unfoldable pub agrees : List Arrow → ℕ → ℕ → Class → ℕ → Bool
agrees rows off lo [] hi = says lacks rows (off + lo) (off + hi)
agrees rows off lo ((l to h) ∷ c) hi =
    and
    (and (says lacks rows (off + lo) (off + min (pred l) hi)) (apart ((lo to pred l) ∷ []) c))
    (and (says full rows (off + max lo l) (off + min h hi)) (agrees rows off (max lo (suc h)) c hi))

module _ (rows : List Arrow) (off hi v : ℕ) (top : v ≤ hi) where
  pub agreed : (c : Class) (lo : ℕ) → agrees rows off lo c hi ≡ true → lo ≤ v → full (follow rows (off + v)) ≡ is c v
  unfolding agrees
  agreed [] lo e b = lacks_no (follow rows (off + v)) (says_yes (off + v) lacks rows (off + lo) (off + hi) e (omega arith) (omega arith))
  agreed ((l to h) ∷ c) lo e b =
      let s =
      and_of
      (and (says lacks rows (off + lo) (off + min (pred l) hi)) (apart ((lo to pred l) ∷ []) c))
      (and (says full rows (off + max lo l) (off + min h hi)) (agrees rows off (max lo (suc h)) c hi))
      e in
      let a = and_of (says lacks rows (off + lo) (off + min (pred l) hi)) (apart ((lo to pred l) ∷ []) c) s.0 in
      let d = and_of (says full rows (off + max lo l) (off + min h hi)) (agrees rows off (max lo (suc h)) c hi) s.1 in
      by a.0 a.1 d.0 (agreed c (max lo (suc h)) d.1) (dec_le l v) (dec_le v h)
    where
      none_in : apart ((lo to pred l) ∷ []) c ≡ true → v ≤ pred l → is c v ≡ false
      none_in a p = no (is c v) refl
        where
          no : (w : Bool) → is c v ≡ w → w ≡ false
          no true z = absurd (none ((lo to pred l) ∷ []) c v a (rw (within_yes lo (pred l) v b p) refl) z)
          no false z = refl

      low : v < l → within (l to h) v ≡ false
      low p = rw (lt_no l v p) refl
        where
          lt_no : (l v : ℕ) → v < l → leb l v ≡ false
          lt_no l v p = no (leb l v) refl
            where
              no : (w : Bool) → leb l v ≡ w → w ≡ false
              no true z = absurd (omega (arith, leb-true l v z))
              no false z = refl

      by : says lacks rows (off + lo) (off + min (pred l) hi) ≡ true → apart ((lo to pred l) ∷ []) c ≡ true → says full rows (off + max lo l) (off + min h hi) ≡ true
          → (max lo (suc h) ≤ v → full (follow rows (off + v)) ≡ is c v) → Dec (l ≤ v) → Dec (v ≤ h) → full (follow rows (off + v)) ≡ or (within (l to h) v) (is c v)
      by a p f ih (no x) d =
          rw (low (omega arith), none_in p (omega arith))
          (lacks_no (follow rows (off + v)) (says_yes (off + v) lacks rows (off + lo) (off + min (pred l) hi) a (omega arith) (omega arith)))
      by a p f ih (yes x) (yes y) = rw (within_yes l h v x y) (says_yes (off + v) full rows (off + max lo l) (off + min h hi) f (omega arith) (omega arith))
      by a p f ih (yes x) (no y) = ih (omega arith) ∙ sym (high (within (l to h) v) refl)
        where
          high : (w : Bool) → within (l to h) v ≡ w → or w (is c v) ≡ is c v
          high true z = absurd (y (range_of l h v z).1)
          high false z = refl
