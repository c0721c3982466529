-- OR: of two readers the one that is not refused, else the further refusal. It is exact where one of the two always loses, and keeps ONE MORE. Assumes nothing.
use Rattle.std.specs.Prelude.{◌≡◌, List, ◌⊎◌, ℕ, ◌+◌, ◌≤◌, max, length}
use Rattle.std.proofs.Math.Path.{refl}
use Rattle.std.proofs.Common.{ap, inl, inr, arith}
use Rattle.exact.specs.Verdict.{Tail, Res, Verdict, join, acc, stop, takes, stops}
use Rattle.exact.specs.Out.{Out, Reader, finish, margin, Tamed, Tame, shrinks, ok, soft, bad, t_ok, t_soft, t_bad}
use Rattle.exact.specs.Lang.{Lang, Follow, Exact}
use Rattle.exact.specs.Comb.{Alt, both, both_r, both_exact, Loses}
use Rattle.exact.specs.More.{view, OneMore, Which, Meet, meet_loses, both_more, both_new, first, Onward, step_same}
use Rattle.blocks.specs.Or.{Apart, GoesOn, goes_on, low, low_soft, merge, merge_view, or_r}

merge_finish : {X W : Type 0} (k : X → ℕ → List ℕ → Res W) (o o' : Out X) → Apart o o' → GoesOn k o → GoesOn k o' → finish (merge o o') k ≡ finish (both o o') k
merge_finish k (bad p) (bad q) h g g' = refl
merge_finish k (bad p) (ok v a t) (inl h) g g' = low p a (k v a t) h g'
merge_finish k (bad p) (ok v a t) (inr h) g g' = absurd h
merge_finish k (bad p) (soft q v a t) (inl h) g g' = low_soft p q (max p q) a (k v a t) h (omega arith) g'
merge_finish k (bad p) (soft q v a t) (inr h) g g' = absurd h
merge_finish k (ok v a t) (bad q) (inl h) g g' = absurd h
merge_finish k (ok v a t) (bad q) (inr h) g g' = low q a (k v a t) h g
merge_finish k (ok v a t) (ok v' a' t') h g g' = refl
merge_finish k (ok v a t) (soft q v' a' t') h g g' = refl
merge_finish k (soft p v a t) (bad q) (inl h) g g' = absurd h
merge_finish k (soft p v a t) (bad q) (inr h) g g' = low_soft q p (max p q) a (k v a t) h (omega arith) g
merge_finish k (soft p v a t) (ok v' a' t') h g g' = refl
merge_finish k (soft p v a t) (soft q v' a' t') h g g' = refl

-- TAME
tamed_merge : {X : Type 0} {d at : ℕ} {s : List ℕ} {o o' : Out X} → Tamed d at s o → Tamed d at s o' → Tamed d at s (merge o o')
tamed_merge (t_bad p x x') (t_bad q y y') = t_bad (max p q) (omega arith) (omega arith)
tamed_merge (t_bad p x x') (t_ok m) = t_ok m
tamed_merge (t_bad p x x') (t_soft q m l) = t_soft q m l
tamed_merge (t_ok m) y = t_ok m
tamed_merge (t_soft p m l) y = t_soft p m l

pub or_tame : {X : Type 0} {d : ℕ} {r q : Reader X} → Tame d r → Tame d q → Tame d (or_r r q)
unfolding or_r
or_tame m n = record { tame = λ at s. tamed_merge (m.tame at s) (n.tame at s) }

-- EXACT
pub or_exact : {X : Type 0} {d : ℕ} {A B : Lang X} {F : Follow} {r q : Reader X} → ((at : ℕ) (s : List ℕ) → Apart (r at s) (q at s))
    → Exact d A F r → Exact d B F q → Exact d (Alt A B) F (or_r r q)
unfolding or_r both_r
or_exact {A = A} {B} {r = r} {q} apart ea eb =
    let e = both_exact apart ea eb in
    record {
      run = λ K k ne fi at s h.
          rw (merge_finish k (r at s) (q at s) (apart at s) (goes_on K k (ea.moves.tame at s) h) (goes_on K k (eb.moves.tame at s) h))
          (e.run K k ne fi at s h);
      some = e.some;
      moves = or_tame ea.moves eb.moves;
    }

-- ONE MORE
module _ {X : Type 0} {w : ℕ → List ℕ → Which} {p q : ℕ → List ℕ → ℕ} where
  -- both were there
  pub or_more : {r₀ r₁ r₂ q₀ q₁ q₂ : Reader X} → OneMore r₀ r₁ r₂ → OneMore q₀ q₁ q₂ → Meet w p q r₀ q₀ → Meet w p q r₁ q₁ → Meet w p q r₂ q₂
      → OneMore (or_r r₀ q₀) (or_r r₁ q₁) (or_r r₂ q₂)
  unfolding or_r both_r
  or_more {r₀} {r₁} {r₂} {q₀} {q₁} {q₂} x y m₀ m₁ m₂ =
      record {
        tame₀ = or_tame x.tame₀ y.tame₀;
        tame₁ = or_tame x.tame₁ y.tame₁;
        tame₂ = or_tame x.tame₂ y.tame₂;
        climbs = λ at s.
            step_same
            _
            _
            _
            (merge (r₀ at s) (q₀ at s))
            (merge (r₁ at s) (q₁ at s))
            (merge (r₂ at s) (q₂ at s))
            (merge_view (r₀ at s) (q₀ at s) (meet_loses m₀ at s))
            (merge_view (r₁ at s) (q₁ at s) (meet_loses m₁ at s))
            (merge_view (r₂ at s) (q₂ at s) (meet_loses m₂ at s))
            ((both_more x y m₁ m₂ m₀).climbs at s);
      }

  -- the second is new; where the first does not win, it is not refused before the end of the spaces
  pub or_new : {r₀ r₁ r₂ q₁ q₂ : Reader X} → OneMore r₀ r₁ r₂ → Tame 0 q₁ → Tame 0 q₂ → Meet w p q r₁ q₁ → Meet w p q r₂ q₂
      → ((at : ℕ) (s : List ℕ) → (w at s ≡ first) ⊎ (at + margin s ≤ p at s)) → OneMore r₀ (or_r r₁ q₁) (or_r r₂ q₂)
  unfolding or_r both_r
  or_new {r₀} {r₁} {r₂} {q₁} {q₂} x y₁ y₂ m₁ m₂ flat =
      record {
        tame₀ = x.tame₀;
        tame₁ = or_tame x.tame₁ y₁;
        tame₂ = or_tame x.tame₂ y₂;
        climbs = λ at s.
            step_same
            _
            _
            _
            (r₀ at s)
            (merge (r₁ at s) (q₁ at s))
            (merge (r₂ at s) (q₂ at s))
            refl
            (merge_view (r₁ at s) (q₁ at s) (meet_loses m₁ at s))
            (merge_view (r₂ at s) (q₂ at s) (meet_loses m₂ at s))
            ((both_new x y₁ y₂ m₁ m₂ flat).climbs at s);
      }
