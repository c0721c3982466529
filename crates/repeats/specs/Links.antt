-- CHAINS OF KEYS BY NUMBER, each with a head, and links that each lead to an earlier key. Assumes nothing.
use Rattle.std.specs.Prelude.{◌≡◌, List, true, false, ℕ, zero, suc, ◌+◌, ◌-◌, ◌≤◌, ◌<◌, length, get_or, set}
use Rattle.std.proofs.Common.{sym, subst, ◌∙◌, arith, add-one, length-set, get_or-set_same, get_or-set_other}
use Rattle.std.proofs.Math.Decide.{ℕ_discrete}
use Rattle.exact.specs.Tells.{Tells}
use Rattle.repeats.specs.Numbering.{Numbering, Same, chain_at, chain_low, same_chain}

-- the key k is before n
pub record Before (N : Numbering) (n k : ℕ) : Type 0 where
  pub before : k < n
  pub key : N.Key k

pub before_more : {N : Numbering} {n k : ℕ} (m : ℕ) → n ≤ m → Before N n k → Before N m k
before_more m l x = record { before = omega (arith, x.before); key = x.key }

-- a word of a chain: 0 for none, or one more than a key
pub data Points (N : Numbering) (n : ℕ) : ℕ → Type 0 where
  to_none : Points N n zero
  to_key : {k : ℕ} → Before N n k → Points N n (suc k)

points_more : {N : Numbering} {n h : ℕ} (m : ℕ) → n ≤ m → Points N n h → Points N m h
points_more m l to_none = to_none
points_more m l (to_key x) = to_key (before_more m l x)

-- each link leads to an earlier key
abbrev pub Linked : Numbering → List ℕ → Type 0
Linked N links = (j : ℕ) → Points N j (get_or links j 0)

-- key k is in the chain from h
pub data Chained (links : List ℕ) (k : ℕ) : ℕ → Type 0 where
  chained_here : Chained links k (suc k)
  chained_later : {h : ℕ} → Chained links k (get_or links h 0) → Chained links k (suc h)

-- .. so it is a key, before what h is before
chained_key : {N : Numbering} {links : List ℕ} {k n h : ℕ} → Linked N links → Chained links k h → Points N n h → Before N n k
chained_key l chained_here (to_key x) = x
chained_key {n = n} l (chained_later {h} c) (to_key x) = before_more n (omega (arith, x.before)) (chained_key l c (l h))

-- .. and it stays there when the link of a number i is set that the chain has not come to
chained_kept : {N : Numbering} {links : List ℕ} {k h : ℕ} (i v : ℕ) → Linked N links → Chained links k h → Points N i h → Chained (set links i v) k h
chained_kept i v l chained_here p = chained_here
chained_kept {links = links} i v l (chained_later {h} c) (to_key x) =
    chained_later
    {h = h}
    (rw (get_or-set_other links i h v 0 (λ e. omega (arith, x.before))) (chained_kept i v l c (points_more i (omega (arith, x.before)) (l h))))

-- ---- a walk along a chain

-- a key of the chain from h is one of those sought
pub record Met (P : ℕ → Type 0) (links : List ℕ) (h : ℕ) : Type 0 where
  pub other : ℕ
  pub chained : Chained links other h
  pub same : P other

pub record Walkable (N : Numbering) (links : List ℕ) (head i : ℕ) : Type 0 where
  pub points : Points N i head
  pub linked : Linked N links
  pub there : i ≤ length links

-- the walk from head has come to h, and met none
pub record Walked (N : Numbering) (P : ℕ → Type 0) (links : List ℕ) (head i h : ℕ) : Type 0 where
  pub points : Points N i h
  pub to : Met P links head → Met P links h
  pub from : Met P links h → Met P links head

module _ (N : Numbering) (P : ℕ → Type 0) (links : List ℕ) (head i : ℕ) (w : Walkable N links head i) where
  pub walk_first : Walked N P links head i head
  walk_first = record { points = w.points; to = λ m. m; from = λ m. m }

  pub walk_none : (h : ℕ) → Walked N P links head i h → h ≤ 0 → Tells (Met P links head) false
  walk_none h x l m = go h (x.to m).chained l
    where
      go : {k : ℕ} (h : ℕ) → Chained links k h → h ≤ 0 → ⊥
      go _ chained_here l = omega arith
      go _ (chained_later c) l = omega arith

  pub walk_key : (h : ℕ) → Walked N P links head i h → 0 < h → Before N i (h - 1)
  walk_key h x l = go h x.points l
    where
      go : (h : ℕ) → Points N i h → 0 < h → Before N i (h - 1)
      go _ to_none l = absurd (omega arith)
      go _ (to_key {k} y) l = let e : suc k - 1 ≡ k = omega arith in rw e y

  pub walk_room : (h : ℕ) → Walked N P links head i h → 0 < h → h - 1 < length links
  walk_room h x l = omega (arith, (walk_key h x l).before, w.there)

  pub walk_less : (h : ℕ) → 0 < h → get_or links (h - 1) 0 < h
  walk_less h l = omega (arith, low (w.linked (h - 1)))
    where
      low : {j v : ℕ} → Points N j v → v ≤ j
      low to_none = omega arith
      low (to_key y) = omega (arith, y.before)

  pub walk_same : (h : ℕ) → Walked N P links head i h → 0 < h → P (h - 1) → Tells (Met P links head) true
  walk_same h x l s =
      let e : suc (h - 1) ≡ h = omega arith in
      let c : Chained links (h - 1) (suc (h - 1)) = chained_here in
      x.from (record { other = h - 1; chained = subst (Chained links (h - 1)) e c; same = s })

  pub walk_more : (h : ℕ) → Walked N P links head i h → 0 < h → (P (h - 1) → ⊥) → Walked N P links head i (get_or links (h - 1) 0)
  walk_more h x l n =
      let e : suc (h - 1) ≡ h = omega arith in
      record {
        points = points_more i (omega (arith, (walk_key h x l).before)) (w.linked (h - 1));
        to = λ m. on (subst (λ (j : ℕ). Met P links j) (sym e) (x.to m));
        from = λ m. x.from (subst (λ (j : ℕ). Met P links j) e (back m));
      }
    where
      back : Met P links (get_or links (h - 1) 0) → Met P links (suc (h - 1))
      back m = record { other = m.other; chained = chained_later m.chained; same = m.same }

      past : {k : ℕ} (j : ℕ) → (P j → ⊥) → P k → Chained links k (suc j) → Chained links k (get_or links j 0)
      past j n s chained_here = absurd (n s)
      past j n s (chained_later c) = c

      on : Met P links (suc (h - 1)) → Met P links (get_or links (h - 1) 0)
      on m = record { other = m.other; chained = past (h - 1) n m.same m.chained; same = m.same }

-- ---- the chains of the keys before n

pub record Chains (N : Numbering) (heads links : List ℕ) (n : ℕ) : Type 0 where
  pub many : length heads ≡ 4096
  pub heads_point : (m : ℕ) → Points N n (get_or heads m 0)
  pub linked : Linked N links
  pub all : (k : ℕ) → Before N n k → Chained links k (get_or heads (chain_at N k) 0)

-- a key before n is one of those sought
pub record Within (N : Numbering) (P : ℕ → Type 0) (n : ℕ) : Type 0 where
  pub other : ℕ
  pub key : Before N n other
  pub same : P other

-- .. which all belong to the chain c: so it is in that chain
module _ (N : Numbering) (P : ℕ → Type 0) (heads links : List ℕ) (n : ℕ) (x : Chains N heads links n) (c : ℕ) where
  pub chains_walkable : n ≤ length links → Walkable N links (get_or heads c 0) n
  chains_walkable l = record { points = x.heads_point c; linked = x.linked; there = l }

  pub met_within : Met P links (get_or heads c 0) → Within N P n
  met_within m = record { other = m.other; key = chained_key x.linked m.chained (x.heads_point c); same = m.same }

  pub within_met : ((k : ℕ) → P k → c ≡ chain_at N k) → Within N P n → Met P links (get_or heads c 0)
  within_met f e = record { other = e.other; chained = rw (f e.other e.same) (x.all e.other e.key); same = e.same }

-- key i is the same as one before it
abbrev pub Earlier : Numbering → ℕ → Type 0
Earlier N i = Within N (Same N i) i

-- key i takes its place in its chain
pub record Noting (N : Numbering) (heads links : List ℕ) (i : ℕ) : Type 0 where
  pub room : i < length links
  pub chains : Chains N heads links i
  pub key : N.Key i

-- no key is seen yet
pub chains_none : (N : Numbering) (heads links : List ℕ) → length heads ≡ 4096 → ((m : ℕ) → get_or heads m 0 ≡ 0) → ((j : ℕ) → get_or links j 0 ≡ 0) → Chains N heads links 0
chains_none N heads links l h k =
    record {
      many = l;
      heads_point = λ m. rw (h m) to_none;
      linked = λ j. rw (k j) to_none;
      all = λ j x. absurd (omega (arith, x.before));
    }

module _ (N : Numbering) (heads links : List ℕ) (i : ℕ) (w : Noting N heads links i) where
  abbrev x : Chains N heads links i
  x = w.chains

  abbrev head : ℕ
  head = get_or heads (chain_at N i) 0

  walkable : Walkable N links head i
  walkable = chains_walkable N (Same N i) heads links i x (chain_at N i) (omega (arith, w.room))

  met_earlier : Met (Same N i) links head → Earlier N i
  met_earlier m = met_within N (Same N i) heads links i x (chain_at N i) m

  earlier_met : Earlier N i → Met (Same N i) links head
  earlier_met e = within_met N (Same N i) heads links i x (chain_at N i) (λ k s. same_chain N i k s) e

  chains_key : Chains N (set heads (chain_at N i) (i + 1)) (set links i head) (i + 1)
  chains_key =
      record {
        many = length-set heads (chain_at N i) (i + 1) ∙ x.many;
        heads_point = λ m. points m (ℕ_discrete m (chain_at N i));
        linked = λ j. links_point j (ℕ_discrete j i);
        all = λ k y. chained k y (ℕ_discrete k i) (ℕ_discrete (chain_at N k) (chain_at N i));
      }
    where
      here : get_or (set heads (chain_at N i) (i + 1)) (chain_at N i) 0 ≡ suc i
      here = get_or-set_same heads (chain_at N i) (i + 1) 0 (omega (arith, chain_low N i, x.many)) ∙ add-one i

      linked_here : get_or (set links i head) i 0 ≡ head
      linked_here = get_or-set_same links i head 0 w.room

      points : (m : ℕ) → Dec (m ≡ chain_at N i) → Points N (i + 1) (get_or (set heads (chain_at N i) (i + 1)) m 0)
      points m (yes e) = rw (e, here) (to_key {k = i} (record { before = omega arith; key = w.key }))
      points m (no e) = rw (get_or-set_other heads (chain_at N i) m (i + 1) 0 e) (points_more (i + 1) (omega arith) (x.heads_point m))

      links_point : (j : ℕ) → Dec (j ≡ i) → Points N j (get_or (set links i head) j 0)
      links_point j (yes e) = rw (e, linked_here) (x.heads_point (chain_at N i))
      links_point j (no e) = rw (get_or-set_other links i j head 0 e) (x.linked j)

      chained : (k : ℕ) → Before N (i + 1) k → Dec (k ≡ i) → Dec (chain_at N k ≡ chain_at N i)
          → Chained (set links i head) k (get_or (set heads (chain_at N i) (i + 1)) (chain_at N k) 0)
      chained k y (yes e) d = rw (e, here) chained_here
      chained k y (no e) (yes f) =
          let z : Chained links k head = rw f at (x.all k (record { before = omega (arith, y.before); key = y.key })) in
          rw (f, here) (chained_later {h = i} (rw linked_here (chained_kept i head x.linked z (x.heads_point (chain_at N i)))))
      chained k y (no e) (no f) =
          rw
          (get_or-set_other heads (chain_at N i) (chain_at N k) (i + 1) 0 f)
          (chained_kept i head x.linked (x.all k (record { before = omega (arith, y.before); key = y.key })) (x.heads_point (chain_at N k)))

  -- .. where the chain is m
  module _ (m : ℕ) (e : m ≡ chain_at N i) where
    pub note_walkable : Walkable N links (get_or heads m 0) i
    note_walkable = rw e walkable

    pub note_low : m < length heads
    note_low = omega (arith, chain_low N i, x.many)

    pub note_small : m < 4096
    note_small = omega (arith, chain_low N i)

    pub note_met : Met (Same N i) links (get_or heads m 0) → Earlier N i
    note_met y = met_earlier (rw e at y)

    pub note_past : (Met (Same N i) links (get_or heads m 0) → ⊥) → Earlier N i → ⊥
    note_past n y = n (rw e (earlier_met y))

    pub note_chains : Chains N (set heads m (i + 1)) (set links i (get_or heads m 0)) (i + 1)
    note_chains = rw e chains_key
