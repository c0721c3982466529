-- LOOKING FOR A KEY IN PAIRS: the first one that has it answers, and there is always an answer. Assumes nothing.
use Rattle.std.specs.Prelude.{◌≡◌, refl, ℕ}
use Rattle.std.proofs.Common.{subst}
use mathlib.Core.List.{List, [], ◌∷◌, List-discrete}
use Rattle.std.proofs.Math.Decide.{ℕ_discrete}
use Rattle.language.specs.Tree.{Tree}
use Rattle.questions.specs.Number.{NONE}
use Rattle.questions.specs.Walk.{Reply, answer, refusal}
use Rattle.found.specs.Objects.{Pair, pair, Holds, held, held_later, ValueAt, NoKey}

-- "First match answers; the walk's end is NONE"
pub data Looks (s : List ℕ) : List Pair → Reply → Type 0 where
  looks_none : Looks s [] (refusal NONE)
  looks_here : {k : List ℕ} {i : ℕ} {v : Tree} {fs : List Pair} → k ≡ s → Looks s (pair k i v ∷ fs) (answer i)
  looks_later : {k : List ℕ} {i : ℕ} {v : Tree} {fs : List Pair} {reply : Reply} → (k ≡ s → ⊥) → Looks s fs reply → Looks s (pair k i v ∷ fs) reply

-- what looking comes to: the key's value, or no pair has the key
pub data Comes (fs : List Pair) (s : List ℕ) : Type 0 where
  comes_at : (i : ℕ) → ValueAt fs s i → Looks s fs (answer i) → Comes fs s
  comes_none : NoKey fs s → Looks s fs (refusal NONE) → Comes fs s

no_pairs : {s : List ℕ} {i : ℕ} {v : Tree} → Holds s i v [] → ⊥
no_pairs h = elim h [ ]

-- a key that the first pair has not is one of the others'
not_first : {s k : List ℕ} {i j : ℕ} {u v : Tree} {fs : List Pair} → (k ≡ s → ⊥) → Holds s i u (pair k j v ∷ fs) → Holds s i u fs
not_first n held = absurd (n refl)
not_first n (held_later h) = h

pub looked : (s : List ℕ) (fs : List Pair) → Comes fs s
looked s [] = comes_none (λ i x. no_pairs x.holds) looks_none
looked s (pair k i v ∷ fs) = by (List-discrete ℕ_discrete k s) (looked s fs)
  where
    by : Dec (k ≡ s) → Comes fs s → Comes (pair k i v ∷ fs) s
    by (yes e) c = comes_at i (record { value = v; holds = subst (λ (x : List ℕ). Holds x i v (pair k i v ∷ fs)) e held }) (looks_here e)
    by (no n) (comes_at j x l) = comes_at j (record { value = x.value; holds = held_later x.holds }) (looks_later n l)
    by (no n) (comes_none z l) = comes_none (λ j x. z j (record { value = x.value; holds = not_first n x.holds })) (looks_later n l)
