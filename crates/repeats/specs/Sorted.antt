-- KEYS BY NUMBER IN THE ORDER OF THEIR NAMES (`Ranked`): the first t stand in a room, each once; a name is sought among them by halving (`Sought`), and its key put between (`Inserted`). Assumes nothing.
use Rattle.std.specs.Prelude.{◌≡◌, List, ℕ, ◌+◌, ◌-◌, ◌≤◌, ◌<◌, length, get_or, set}
use Rattle.std.proofs.Common.{sym, ap, subst, ◌∙◌, arith, get_or-set_same, get_or-set_other}
use Rattle.std.specs.List.{CopiedTo, SameBelow}
use Rattle.std.proofs.Math.Decide.{ℕ_discrete, dec_lt}
use Rattle.repeats.specs.Order.{Precedes, onward, never_itself}

-- the key at x of the order
abbrev pub at : List ℕ → ℕ → ℕ
at order x = get_or order x 0

-- k stands among the first t
pub record Stands (order : List ℕ) (t k : ℕ) : Type 0 where
  pub where_at : ℕ
  pub low : where_at < t
  pub is : at order where_at ≡ k

pub record Ranked (name : ℕ → List ℕ) (order : List ℕ) (t : ℕ) : Type 0 where
  pub rising : (x y : ℕ) → x < y → y < t → Precedes (name (at order x)) (name (at order y))
  pub keys : (x : ℕ) → x < t → at order x < t
  pub all : (k : ℕ) → k < t → Stands order t k

pub ranked_none : (name : ℕ → List ℕ) (order : List ℕ) → Ranked name order 0
ranked_none name order = record { rising = λ x y h l. absurd (omega arith); keys = λ x l. absurd (omega arith); all = λ k l. absurd (omega arith) }

-- the name s belongs behind the first lo of i, and before those from hi on
pub record Sought (name : ℕ → List ℕ) (s : List ℕ) (order : List ℕ) (i lo hi : ℕ) : Type 0 where
  pub ordered : lo ≤ hi
  pub inside : hi ≤ i
  pub below : (x : ℕ) → x < lo → Precedes (name (at order x)) (s)
  pub above : (x : ℕ) → hi ≤ x → x < i → Precedes (s) (name (at order x))

module _ (name : ℕ → List ℕ) (s : List ℕ) (order : List ℕ) (i : ℕ) (r : Ranked name order i) where
  pub seek_first : Sought name s order i 0 i
  seek_first = record { ordered = omega arith; inside = omega arith; below = λ x l. absurd (omega arith); above = λ x h l. absurd (omega arith) }

  module _ (lo hi mid : ℕ) (w : Sought name s order i lo hi) (l : lo ≤ mid) (m : mid < hi) where
    pub seek_key : at order mid < i
    seek_key = r.keys mid (omega (arith, w.inside))

    pub seek_less : Precedes (s) (name (at order mid)) → Sought name s order i lo mid
    seek_less p =
        record {
          ordered = l;
          inside = omega (arith, w.inside);
          below = w.below;
          above = λ x h k. by x h k (ℕ_discrete x mid);
        }
      where
        by : (x : ℕ) → mid ≤ x → x < i → Dec (x ≡ mid) → Precedes (s) (name (at order x))
        by x h k (yes e) = subst (λ (j : ℕ). Precedes (s) (name (at order j))) (sym e) p
        by x h k (no e) = onward p (r.rising mid x (omega arith) k)

    pub seek_more : Precedes (name (at order mid)) (s) → Sought name s order i (mid + 1) hi
    seek_more p =
        record {
          ordered = omega arith;
          inside = w.inside;
          below = λ x k. by x k (ℕ_discrete x mid);
          above = w.above;
        }
      where
        by : (x : ℕ) → x < mid + 1 → Dec (x ≡ mid) → Precedes (name (at order x)) (s)
        by x k (yes e) = subst (λ (j : ℕ). Precedes (name (at order j)) (s)) (sym e) p
        by x k (no e) = onward (r.rising x mid (omega arith) (omega (arith, w.inside))) p

  -- it is the name of none of them
  pub seek_none : (p : ℕ) → Sought name s order i p p → (k : ℕ) → k < i → s ≡ name k → ⊥
  seek_none p w k l e = go (r.all k l)
    where
      go : Stands order i k → ⊥
      go z = by (dec_lt z.where_at p)
        where
          by : Dec (z.where_at < p) → ⊥
          by (yes h) = never_itself s (rw (ap name z.is ∙ sym e) at (w.below z.where_at h))
          by (no h) = never_itself s (rw (ap name z.is ∙ sym e) at (w.above z.where_at (omega arith) z.low))

-- key i stands at p of the order now, and those that stood there and behind stand one further
pub record Inserted (order order' : List ℕ) (p i : ℕ) : Type 0 where
  pub before : (x : ℕ) → x < p → at order' x ≡ at order x
  pub here : at order' p ≡ i
  pub behind : (x : ℕ) → p < x → x ≤ i → at order' x ≡ at order (x - 1)

-- those from p on are moved one further, and i is stored there
pub inserted : (order order' : List ℕ) (p i : ℕ) → p ≤ i → i < length order → length order' ≡ length order → CopiedTo order order' p (p + 1) (i - p) → SameBelow order order' (p + 1) → Inserted order (set order' p i) p i
inserted order order' p i h l e c s =
    record {
      before = λ x k. get_or-set_other order' p x i 0 (λ z. omega arith) ∙ s x 0 (omega arith);
      here = get_or-set_same order' p i 0 (omega arith);
      behind = λ x k m. get_or-set_other order' p x i 0 (λ z. omega arith) ∙ (c x 0 (omega arith) (omega arith) ∙ ap (at order) (behind x k));
    }
  where
    behind : (x : ℕ) → p < x → p + (x - (p + 1)) ≡ x - 1
    behind x k = omega arith

-- so one key more is in order
module _ (name : ℕ → List ℕ) (order order' : List ℕ) (p i : ℕ) (r : Ranked name order i) (w : Sought name (name i) order i p p) (v : Inserted order order' p i) where
  -- a key of the old order, and where it stands now
  data Spot (x : ℕ) : Type 0 where
    is_before : x < p → at order' x ≡ at order x → Spot x
    is_here : x ≡ p → at order' x ≡ i → Spot x
    is_behind : p < x → at order' x ≡ at order (x - 1) → Spot x

  spot : (x : ℕ) → x ≤ i → Spot x
  spot x l = by (dec_lt x p) (ℕ_discrete x p)
    where
      by : Dec (x < p) → Dec (x ≡ p) → Spot x
      by (yes h) d = is_before h (v.before x h)
      by (no h) (yes e) = is_here e (ap (at order') e ∙ v.here)
      by (no h) (no e) = let g : p < x = omega arith in is_behind g (v.behind x g l)

  abbrev Up : ℕ → ℕ → Type 0
  Up j k = Precedes (name j) (name k)

  up : (x y : ℕ) {j k : ℕ} → at order' x ≡ j → at order' y ≡ k → Up j k → Up (at order' x) (at order' y)
  up x y e f z = rw (e, f) z

  pub ranked_more : Ranked name order' (i + 1)
  ranked_more = record { rising = λ x y h l. rise x y h l (spot x (omega arith)) (spot y (omega arith)); keys = λ x l. key x l (spot x (omega arith)); all = λ k l. placed k l (ℕ_discrete k i) }
    where
      rise : (x y : ℕ) → x < y → y < i + 1 → Spot x → Spot y → Up (at order' x) (at order' y)
      rise x y h l (is_before a e) (is_before b f) = up x y e f (r.rising x y h (omega (arith, w.inside)))
      rise x y h l (is_before a e) (is_here b f) = up x y e f (w.below x a)
      rise x y h l (is_before a e) (is_behind b f) = up x y e f (r.rising x (y - 1) (omega arith) (omega arith))
      rise x y h l (is_here a e) (is_before b f) = absurd (omega arith)
      rise x y h l (is_here a e) (is_here b f) = absurd (omega arith)
      rise x y h l (is_here a e) (is_behind b f) = up x y e f (w.above (y - 1) (omega arith) (omega arith))
      rise x y h l (is_behind a e) (is_before b f) = absurd (omega arith)
      rise x y h l (is_behind a e) (is_here b f) = absurd (omega arith)
      rise x y h l (is_behind a e) (is_behind b f) = up x y e f (r.rising (x - 1) (y - 1) (omega arith) (omega arith))

      key : (x : ℕ) → x < i + 1 → Spot x → at order' x < i + 1
      key x l (is_before a e) = let g = r.keys x (omega (arith, w.inside)) in omega arith
      key x l (is_here a e) = omega arith
      key x l (is_behind a e) = let g = r.keys (x - 1) (omega arith) in omega arith

      placed : (k : ℕ) → k < i + 1 → Dec (k ≡ i) → Stands order' (i + 1) k
      placed k l (yes e) = record { where_at = p; low = omega (arith, w.inside); is = v.here ∙ sym e }
      placed k l (no e) = go (r.all k (omega arith))
        where
          go : Stands order i k → Stands order' (i + 1) k
          go z = by (dec_lt z.where_at p)
            where
              by : Dec (z.where_at < p) → Stands order' (i + 1) k
              by (yes h) = record { where_at = z.where_at; low = omega (arith, z.low); is = v.before z.where_at h ∙ z.is }
              by (no h) =
                  let q : z.where_at + 1 - 1 ≡ z.where_at = omega arith in
                  record {
                    where_at = z.where_at + 1;
                    low = omega (arith, z.low);
                    is = v.behind (z.where_at + 1) (omega arith) (omega (arith, z.low)) ∙ (ap (at order) q ∙ z.is);
                  }
