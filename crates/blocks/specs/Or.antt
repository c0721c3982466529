-- OR: of two readers the one that is not refused, else the further refusal. It is exact where one of the two always loses, and keeps ONE MORE. Assumes nothing.
use Rattle.std.specs.Prelude.{◌≡◌, List, ◌⊎◌, ℕ, ◌+◌, ◌≤◌, max, length}
use Rattle.std.proofs.Math.Path.{refl}
use Rattle.std.proofs.Common.{ap, inl, inr, arith}
use Rattle.exact.specs.Verdict.{Tail, Res, Verdict, join, acc, stop, takes, stops}
use Rattle.exact.specs.Out.{Out, Reader, finish, margin, Tamed, Tame, shrinks, ok, soft, bad, t_ok, t_soft, t_bad}
use Rattle.exact.specs.Lang.{Lang, Follow, Exact}
use Rattle.exact.specs.Comb.{Alt, both, both_r, both_exact, Loses}
use Rattle.exact.specs.More.{view, OneMore, Which, Meet, meet_loses, both_more, both_new, first, Onward, step_same}

abbrev pub merge : {X : Type 0} → Out X → Out X → Out X
merge (bad p) (bad q) = bad (max p q)
merge (bad p) (ok v a t) = ok v a t
merge (bad p) (soft q v a t) = soft q v a t
merge (ok v a t) o = ok v a t
merge (soft p v a t) o = soft p v a t

unfoldable pub or_r : {X : Type 0} → Reader X → Reader X → Reader X
or_r r q at s = merge (r at s) (q at s)

-- one of the two loses
abbrev pub Apart : {X : Type 0} → Out X → Out X → Type 0
Apart o o' = Loses o o' ⊎ Loses o' o

-- WHAT THE LOSER WOULD RAISE makes no difference
pub merge_view : {X : Type 0} (o o' : Out X) → Apart o o' → view (merge o o') ≡ view (both o o')
merge_view (bad p) (bad q) h = refl
merge_view (bad p) (ok v a t) (inl h) = ap (λ n. soft n v a t) (omega arith)
merge_view (bad p) (ok v a t) (inr h) = absurd h
merge_view (bad p) (soft q v a t) (inl h) = ap (λ n. soft n v a t) (omega arith)
merge_view (bad p) (soft q v a t) (inr h) = absurd h
merge_view (ok v a t) (bad q) (inl h) = absurd h
merge_view (ok v a t) (bad q) (inr h) = ap (λ n. soft n v a t) (omega arith)
merge_view (ok v a t) (ok v' a' t') h = refl
merge_view (ok v a t) (soft q v' a' t') h = refl
merge_view (soft p v a t) (bad q) (inl h) = absurd h
merge_view (soft p v a t) (bad q) (inr h) = ap (λ n. soft n v a t) (omega arith)
merge_view (soft p v a t) (ok v' a' t') h = refl
merge_view (soft p v a t) (soft q v' a' t') h = refl

-- what goes on after an answer refuses nothing before its start
abbrev pub GoesOn : {X W : Type 0} → (X → ℕ → List ℕ → Res W) → Out X → Type 0
GoesOn k (ok v a t) = Onward a (k v a t)
GoesOn k (soft p v a t) = Onward a (k v a t)
GoesOn k (bad p) = Unit {0}

pub low : {W : Type 0} (p a : ℕ) (f : Res W) → p ≤ a → Onward a f → f ≡ join (stop p) f
low p a (acc w) l h = refl
low p a (stop q) l h = ap stop (omega arith)

pub low_soft : {W : Type 0} (p q m a : ℕ) (f : Res W) → p ≤ max q a → max q p ≡ m → Onward a f → join (stop q) f ≡ join (stop m) f
low_soft p q m a (acc w) l e h = refl
low_soft p q m a (stop n) l e h = ap stop (omega arith)

pub verdict_onward : {W : Type 0} {P : Tail W} {a : ℕ} {t : List ℕ} {f : Res W} → Verdict P a t f → Onward a f
verdict_onward (takes w x u) = tt
verdict_onward (stops p v z) = omega (arith, v.here)

pub goes_on : {X W : Type 0} {d at : ℕ} {s : List ℕ} {o : Out X} (K : X → ℕ → Tail W) (k : X → ℕ → List ℕ → Res W) → Tamed d at s o
    → ((v : X) (a : ℕ) (t : List ℕ) → d + length t ≤ length s → Verdict (K v a) a t (k v a t)) → GoesOn k o
goes_on K k (t_ok {v = v} {a = a} {t = t} m) h = verdict_onward (h v a t (shrinks m))
goes_on K k (t_soft {v = v} {a = a} {t = t} p m l) h = verdict_onward (h v a t (shrinks m))
goes_on K k (t_bad p l m) h = tt
