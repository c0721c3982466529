-- BYTES OF WHICH EACH IS A WORD: any number of them. Assumes nothing.
use Rattle.std.specs.Prelude.{◌≡◌, List, [], ◌∷◌, ◌++◌, Bool, true, ℕ, ◌+◌, ◌≤◌, length}
use Rattle.std.proofs.Common.{arith}
use Rattle.notation.specs.Lang.{Lang, Star, Plus}
use Rattle.house.specs.Spells.{Reads, star_none, star_more, plus_reads}

-- each of these bytes passes the test
pub data All (f : ℕ → Bool) : List ℕ → Type 0 where
  all_none : All f []
  all_more : {b : ℕ} {s : List ℕ} → f b ≡ true → All f s → All f (b ∷ s)

pub all_append : {f : ℕ → Bool} {s t : List ℕ} → All f s → All f t → All f (s ++ t)
all_append all_none y = y
all_append (all_more e x) y = all_more e (all_append x y)

module _ {A : Lang ℕ} {f : ℕ → Bool} (g : (at b : ℕ) → f b ≡ true → Reads A at (b ∷ []) b) where
  pub star_each : {at : ℕ} {s : List ℕ} → All f s → Reads (Star A) at s s
  star_each all_none = star_none
  star_each {at = at} (all_more {b = b} e x) = star_more (g at b e) (star_each {at = at + 1} x)

  pub plus_each : {at : ℕ} {s : List ℕ} → All f s → 1 ≤ length s → Reads (Plus A) at s s
  plus_each all_none h = absurd (omega arith)
  plus_each (all_more e x) h = plus_reads (g _ _ e) (star_each x)
