-- SYNTAX, DEEP and END told apart, for every family of documents by allowance that has an exact reader: the reader is run with the allowance k, and after a
-- refusal once more with k + 1. Assumes nothing.
use Rattle.std.specs.Prelude.{◌≡◌, refl, List, [], ◌∷◌, ◌++◌, Bool, true, false, ℕ, zero, suc, ◌+◌, ◌-◌, ◌≤◌, ◌<◌, length, take, leb, ltb}
use Rattle.std.proofs.Common.{sym, ap, subst, ◌∙◌, arith, take_all, leb-true, leb-false, ltb-true, ltb-false}
use Rattle.std.proofs.Math.Decide.{dec_le}
use Rattle.exact.specs.Verdict.{Tail, Res, Begins, Far, Verdict, less, whole, acc, stop, takes, stops}
use Rattle.exact.specs.Class.{pick}
use Rattle.exact.specs.More.{Beyond, Runs, alike, beyond}

pub data Report (W : Type 0) : Type 0 where
  taken : W → Report W
  syntax : ℕ → Report W
  deep : ℕ → Report W
  over : ℕ → Report W

-- WHAT A REPORT SAYS, of the documents with at most k containers one inside another; `Document j` for every j is nesting unlimited
pub data Correct {W : Type 0} (Document : ℕ → Tail W) (k : ℕ) (s : List ℕ) : Report W → Type 0 where
  c_taken : (w : W) → Document k s w → ((w' : W) → Document k s w' → w' ≡ w) → Correct Document k s (taken w)
  c_syntax : (p : ℕ) → p < length s → Begins (Document k) (take p s) → ((j : ℕ) → Begins (Document j) (take (suc p) s) → ⊥) → Correct Document k s (syntax p)
  c_deep : (p : ℕ) → p < length s → Begins (Document k) (take p s) → (Begins (Document k) (take (suc p) s) → ⊥) → (j : ℕ) → Begins (Document j) (take (suc p) s)
      → Correct Document k s (deep p)
  c_over : Begins (Document k) s → ((w : W) → Document k s w → ⊥) → Correct Document k s (over (length s))

abbrev pub further : {W : Type 0} → ℕ → Res W → Report W
further p (acc w) = deep p
further p (stop q) = pick (ltb p q) (deep p) (syntax p)

-- the run with k, and the run with k + 1
abbrev pub settle : {W : Type 0} → List ℕ → Res W → Res W → Report W
settle s (acc w) g = taken w
settle s (stop p) g = pick (leb (length s) p) (over (length s)) (further p g)

-- a family of documents, its answers, and what has to be known of them
pub record Family {W : Type 0} (Document : ℕ → Tail W) (answer : ℕ → List ℕ → Res W) : Type 0 where
  pub exact : (k : ℕ) (s : List ℕ) → Verdict (Document k) 0 s (answer k s)
  pub rises : (k : ℕ) (u : List ℕ) → Begins (Document k) u → Begins (Document (suc k)) u
  pub climbs : (k j : ℕ) (s : List ℕ) → k < j → Runs (answer k s) (answer (suc k) s) (answer j s)

module _ {W : Type 0} {Document : ℕ → Tail W} {answer : ℕ → List ℕ → Res W} (f : Family Document answer) where
  never : {A : Type 0} {w : W} {q : ℕ} → acc w ≡ stop q → A
  never e = let z : ◌≡◌ {A = ℕ} 0 1 = cc in absurd (omega arith)

  stop_far : {P : Tail W} {at : ℕ} {s : List ℕ} {g : Res W} {q : ℕ} → Verdict P at s g → g ≡ stop q → Far P at s q
  stop_far (takes w x u) e = never e
  stop_far {P} {at} {s} {q = q} (stops p v z) e = subst (λ (n : ℕ). Far P at s n) same_place v
    where
      same_place : p ≡ q
      same_place = cc

  rise_by : (d k : ℕ) (u : List ℕ) → Begins (Document k) u → Begins (Document (d + k)) u
  rise_by zero k u b = subst (λ (n : ℕ). Begins (Document n) u) (omega arith) b
  rise_by (suc d) k u b = subst (λ (n : ℕ). Begins (Document n) u) (omega arith) (f.rises (d + k) u (rise_by d k u b))

  -- p is dead with k, and the run with k + 1 does not go beyond it: it is dead with every j
  pub dead_ever : (k p : ℕ) (s : List ℕ) → answer k s ≡ stop p → (Beyond p (answer (suc k) s) → ⊥) → p < length s → (j : ℕ) → Begins (Document j) (take (suc p) s) → ⊥
  dead_ever k p s e not l j b = by (dec_le j k)
    where
      dead_at : (j : ℕ) → answer j s ≡ stop p → Begins (Document j) (take (suc p) s) → ⊥
      dead_at j e b =
          let v : Far (Document j) 0 s p = stop_far (f.exact j s) e in
          let h : p ≡ 0 + v.n = v.here in
          v.dead (omega arith) (less (suc v.n) (suc p) s (omega arith) b)

      go : k < j → Runs (answer k s) (answer (suc k) s) (answer j s) → ⊥
      go m (alike x y) = dead_at j (sym y ∙ e) b
      go m (beyond q x y) = not (subst (λ (n : ℕ). Beyond n (answer (suc k) s)) q≡p y)
        where
          q≡p : q ≡ p
          q≡p = cc

      by : Dec (j ≤ k) → ⊥
      by (yes m) = dead_at k e (subst (λ (n : ℕ). Begins (Document n) (take (suc p) s)) (omega arith) (rise_by (k - j) j (take (suc p) s) b))
      by (no m) = go (omega arith) (f.climbs k j s (omega arith))

  -- THE REPORT IS CORRECT
  pub settled : (k : ℕ) (s : List ℕ) → Correct Document k s (settle s (answer k s) (answer (suc k) s))
  settled k s = go (answer k s) refl (f.exact k s)
    where
      go : (g : Res W) → answer k s ≡ g → Verdict (Document k) 0 s g → Correct Document k s (settle s g (answer (suc k) s))
      go (acc w) e (takes _ x u) = c_taken w x u
      go (stop p) e (stops _ v z) = by (leb (length s) p) refl
        where
          place : p ≡ v.n
          place = let h = v.here in omega arith

          alive : Begins (Document k) (take p s)
          alive = rw place v.viable

          on : p < length s → (g : Res W) → answer (suc k) s ≡ g → Verdict (Document (suc k)) 0 s g → Correct Document k s (further p g)
          on l (acc w) e' (takes _ x u) = c_deep p l alive (λ b. v.dead (omega arith) (rw place at b)) (suc k) (whole (suc p) s w x)
          on l (stop q) e' (stops _ v' z') = at_q (ltb p q) refl
            where
              at_q : (c : Bool) → ltb p q ≡ c → Correct Document k s (pick c (deep p) (syntax p))
              at_q true t = c_deep p l alive (λ b. v.dead (omega arith) (rw place at b)) (suc k) (less (suc p) v'.n s (omega (arith, v'.here, ltb-true p q t)) v'.viable)
              at_q false t =
                  c_syntax p l alive (dead_ever k p s e (λ b. let h : p < q = subst (Beyond p) e' b in omega (arith, ltb-false p q t)) l)

          by : (c : Bool) → leb (length s) p ≡ c → Correct Document k s (pick c (over (length s)) (further p (answer (suc k) s)))
          by true t = c_over (subst (λ (u : List ℕ). Begins (Document k) u) (take_all v.n s (omega (arith, leb-true (length s) p t, v.here))) v.viable) z
          by false t = on (leb-false (length s) p t) (answer (suc k) s) refl (f.exact (suc k) s)
