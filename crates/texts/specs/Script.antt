-- UTF-8 OF SCALAR VALUES, passed over character by character: the first four bytes decide. Assumes nothing.
use Rattle.std.specs.Prelude.{◌≡◌, refl, List, [], ◌∷◌, ℕ, zero, suc, ◌+◌, ◌≤◌, ◌<◌, length, get_or, drop}
use Rattle.std.proofs.Common.{sym, ap, subst, ◌∙◌, arith, length-drop, drop_of_length-le, get_or-drop, drop-drop, rules}
use Rattle.std.proofs.Math.ListN.{get_or-eq_default}
use Rattle.shaped.specs.Shaped.{Scripted, scripted_none}
use Rattle.texts.specs.Opens.{Opens, one, two, three_below, three_above, four, Led, opens_same}
use Rattle.texts.specs.Spelt.{Begun, opened, join_one, join_two, join_below, join_above, join_four}

-- ---- a character at the front

begun_back : (s : List ℕ) (n : ℕ) → 0 < length s → Begun s n → (n ≤ length s) × (Scripted (drop n s) → Scripted s)
begun_back [] n l x = absurd (omega arith)
begun_back (b ∷ []) n l (one h) = (omega arith, join_one [] b h)
begun_back (b ∷ []) n l (two p q i) = absurd (omega arith)
begun_back (b ∷ []) n l (three_below p q i j) = absurd (omega arith)
begun_back (b ∷ []) n l (three_above p q i j) = absurd (omega arith)
begun_back (b ∷ []) n l (four p q i j k) = absurd (omega arith)
begun_back (b ∷ c ∷ []) n l (one h) = (omega arith, join_one (c ∷ []) b h)
begun_back (b ∷ c ∷ []) n l (two p q i) = (omega arith, join_two [] b c i p q)
begun_back (b ∷ c ∷ []) n l (three_below p q i j) = absurd (omega arith)
begun_back (b ∷ c ∷ []) n l (three_above p q i j) = absurd (omega arith)
begun_back (b ∷ c ∷ []) n l (four p q i j k) = absurd (omega arith)
begun_back (b ∷ c ∷ d ∷ []) n l (one h) = (omega arith, join_one (c ∷ d ∷ []) b h)
begun_back (b ∷ c ∷ d ∷ []) n l (two p q i) = (omega arith, join_two (d ∷ []) b c i p q)
begun_back (b ∷ c ∷ d ∷ []) n l (three_below p q i j) = (omega arith, join_below [] b c i d j p q)
begun_back (b ∷ c ∷ d ∷ []) n l (three_above p q i j) = (omega arith, join_above [] b c i d j p q)
begun_back (b ∷ c ∷ d ∷ []) n l (four p q i j k) = absurd (omega arith)
begun_back (b ∷ c ∷ d ∷ f ∷ s) n l (one h) = (omega arith, join_one (c ∷ d ∷ f ∷ s) b h)
begun_back (b ∷ c ∷ d ∷ f ∷ s) n l (two p q i) = (omega arith, join_two (d ∷ f ∷ s) b c i p q)
begun_back (b ∷ c ∷ d ∷ f ∷ s) n l (three_below p q i j) = (omega arith, join_below (f ∷ s) b c i d j p q)
begun_back (b ∷ c ∷ d ∷ f ∷ s) n l (three_above p q i j) = (omega arith, join_above (f ∷ s) b c i d j p q)
begun_back (b ∷ c ∷ d ∷ f ∷ s) n l (four p q i j k) = (omega arith, join_four s b c i d j f k p q)

begun_there : (s : List ℕ) (n : ℕ) → 0 < length s → Begun s n → Scripted s → Scripted (drop n s)
begun_there s n l x y =
    let o = opened y l in
    subst (λ (m : ℕ). Scripted (drop m s)) (opens_same o.opens x) o.rest

-- ---- from place to place

-- from a to b stand whole characters
pub record Behind (s : List ℕ) (a b : ℕ) : Type 0 where
  pub onward : a ≤ b
  pub inside : b ≤ length s
  pub there : Scripted (drop a s) → Scripted (drop b s)
  pub back : Scripted (drop b s) → Scripted (drop a s)

-- a character of n bytes begins at a place; and what the four bytes there tell
abbrev pub OpensAt : List ℕ → ℕ → ℕ → Type 0
OpensAt s at n = Opens (get_or s at 0) (get_or s (at + 1) 0) (get_or s (at + 2) 0) (get_or s (at + 3) 0) n

abbrev pub LedAt : List ℕ → ℕ → ℕ → Type 0
LedAt s at n = Led (get_or s at 0) (get_or s (at + 1) 0) (get_or s (at + 2) 0) (get_or s (at + 3) 0) n

pub led_read : (s : List ℕ) (at b c d f n : ℕ) → b ≡ get_or s at 0 → c ≡ get_or s (at + 1) 0 → d ≡ get_or s (at + 2) 0 → f ≡ get_or s (at + 3) 0 → Led b c d f n → LedAt s at n
led_read s at b c d f n x y z w l = rw (x, y, z, w) at l

pub no_byte : (s : List ℕ) (at : ℕ) → length s ≤ at → 0 ≡ get_or s at 0
no_byte s at h = sym (get_or-eq_default s 0 h)

module _ (s : List ℕ) (at : ℕ) where
  at_place : (i k : ℕ) → at + i ≡ k → get_or s k 0 ≡ get_or (drop at s) i 0
  at_place i k e = ap (λ (j : ℕ). get_or s j 0) (sym e) ∙ sym (get_or-drop at s i 0)

  opens_at : (n : ℕ) → OpensAt s at n → Begun (drop at s) n
  opens_at n x = rw (at_place 0 at (omega arith), at_place 1 (at + 1) refl, at_place 2 (at + 2) refl, at_place 3 (at + 3) refl) at x

  begun_at : (n : ℕ) → Begun (drop at s) n → OpensAt s at n
  begun_at n x = rw (at_place 0 at (omega arith), at_place 1 (at + 1) refl, at_place 2 (at + 2) refl, at_place 3 (at + 3) refl) x

  left_over : at < length s → 0 < length (drop at s)
  left_over h = omega (arith, length-drop at s)

pub behind_self : (s : List ℕ) (a : ℕ) → a ≤ length s → Behind s a a
behind_self s a h = record { onward = omega arith; inside = h; there = λ x. x; back = λ x. x }

pub behind_both : (s : List ℕ) (a b c : ℕ) → Behind s a b → Behind s b c → Behind s a c
behind_both s a b c x y =
    record { onward = omega arith; inside = y.inside; there = λ z. y.there (x.there z); back = λ z. x.back (y.back z) }

opens_behind : (s : List ℕ) (at n : ℕ) → at < length s → OpensAt s at n → Behind s at (at + n)
opens_behind s at n h x =
    let l = left_over s at h in
    let b = opens_at s at n x in
    let k = begun_back (drop at s) n l b in
    let e = drop-drop n at s in
    record {
      onward = omega arith;
      inside = omega (arith, k.0, length-drop at s);
      there = λ y. rw e at (begun_there (drop at s) n l b y);
      back = λ y. k.1 (rw e y);
    }

module _ (s : List ℕ) (a i : ℕ) (come : Behind s a i) where
  -- a byte below 128
  pub behind_ascii : i < length s → get_or s i 0 ≤ 127 → Behind s a (i + 1)
  behind_ascii h k = behind_both s a i (i + 1) come (opens_behind s i 1 h (one k))

  pub behind_step : i < length s → (n : ℕ) → LedAt s i n → (n ≡ 0 → ⊥) → Behind s a (i + n)
  behind_step h zero x k = absurd (k refl)
  behind_step h (suc n) x k = behind_both s a i (i + suc n) come (opens_behind s i (suc n) h x)

module _ (s : List ℕ) (i : ℕ) (come : Behind s 0 i) where
  pub behind_stuck : i < length s → (n : ℕ) → LedAt s i n → n ≡ 0 → Scripted s → ⊥
  behind_stuck h zero x k y =
      let o = opened (come.there y) (left_over s i h) in
      x o.size (begun_at s i o.size o.opens)
  behind_stuck h (suc n) x k y = omega arith

  pub behind_end : length s ≤ i → Scripted s
  behind_end h = come.back (rw (drop_of_length-le s h) scripted_none)

pub ruleset scripts = (led_read, no_byte, behind_self, behind_both, behind_ascii, behind_step, behind_stuck, behind_end, rules)
