-- LARGER ROOMS never change acceptance, or a refusal from 1 to 6 (01, Numbers of refusal). Assumes what Unique does.
use Rattle.std.specs.Prelude.{◌≡◌, List, ℕ, ◌≤◌, length}
use Rattle.std.proofs.Common.{arith}
use Rattle.language.specs.Answered.{REPEAT, Answered, accepted, long, stopped, repeated, rows, bytes}
use Rattle.promise.specs.Unique.{Known, one_answer}

-- an answer that larger rooms do not change: an acceptance, or a refusal from 1 to 6
abbrev pub Lasting : ℕ → Type 0
Lasting n = n ≤ REPEAT

module _ (κ : Known) {doc table text table₂ text₂ : List ℕ} (l : length table ≤ length table₂) (m : length text ≤ length text₂) where
  as_well : {n v s : ℕ} {table' text' : List ℕ} → Lasting n → Answered doc table text n v s table' text'
      → (table'' : List ℕ) × (text'' : List ℕ) × Answered doc table₂ text₂ n v s table'' text''
  as_well h (accepted t x i k) = (_, _, accepted t x (omega arith) (omega arith))
  as_well h (long i) = (_, _, long i)
  as_well h (stopped n p i x) = (_, _, stopped n p i x)
  as_well h (repeated t p i x r q) = (_, _, repeated t p i x r q)
  as_well h (rows t x i) = absurd (omega arith)
  as_well h (bytes t x i k) = absurd (omega arith)

  pub larger_rooms : {n v s n₂ v₂ s₂ : ℕ} {table' text' table'' text'' : List ℕ} → Lasting n → Answered doc table text n v s table' text'
      → Answered doc table₂ text₂ n₂ v₂ s₂ table'' text'' → (n ≡ n₂) × (v ≡ v₂) × (s ≡ s₂)
  larger_rooms h x y = let e = one_answer κ (as_well h x).2 y in (e.0, e.1, e.2)
