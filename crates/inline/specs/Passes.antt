-- Two bytes, one behind the other: what a pass over them says of the reader of the two. Assumes nothing.
use Rattle.std.specs.Prelude.{◌≡◌, refl, List, [], ◌∷◌, ℕ, ◌+◌, ◌≤◌, ◌<◌, length, drop}
use Rattle.std.proofs.Math.Path.{ap}
use Rattle.std.proofs.Common.{◌∙◌}
use native.Mathlib.Omega.{arith}
use Rattle.exact.specs.Out.{Out, bind, ok, bad}
use Rattle.exact.specs.Lang.{ret_r}
use Rattle.exact.specs.Ll.{word_r}
use Rattle.exact.specs.Place.{peek, peek_in, byte_is, byte_not}
use Rattle.rooms.specs.declared.Cursor.{Cursor}
use Rattle.std.specs.declared.result.Result.TheVariants.{Err, Ok}
use Rattle.rooms.specs.Contract.{onward}
use Rattle.inline.specs.Contract.{Fails, no_first, no_second, Passed}

module _ (doc : List ℕ) (c : Cursor) (first second : ℕ) (small : first < 256) (small₂ : second < 256) where
  pub word_two : (n : Cursor) → Passed doc c first second (Ok n) → word_r (first ∷ second ∷ []) c.at (drop c.at doc) ≡ ok 0 (c.at + 2) (drop (c.at + 2) doc)
  unfolding Passed
  word_two n h =
      let z : c.at + 1 + 1 ≡ c.at + 2 = omega arith in
      ap (λ (o : Out ℕ). bind o (λ _. word_r (second ∷ []))) (byte_is doc c.at first first small h.1 refl)
      ∙ (ap (λ (o : Out ℕ). bind o (λ _. ret_r 0)) (byte_is doc (c.at + 1) second second small₂ h.2 refl) ∙ ap (λ k. ok 0 k (drop k doc)) z)

  word_fails : (p : ℕ) → Fails doc c.at first second p → word_r (first ∷ second ∷ []) c.at (drop c.at doc) ≡ bad p
  word_fails _ (no_first k) = ap (λ (o : Out ℕ). bind o (λ _. word_r (second ∷ []))) (byte_not doc c.at first (peek doc c.at) small refl k)
  word_fails _ (no_second e k) =
      ap (λ (o : Out ℕ). bind o (λ _. word_r (second ∷ []))) (byte_is doc c.at first first small e refl)
      ∙ ap (λ (o : Out ℕ). bind o (λ _. ret_r 0)) (byte_not doc (c.at + 1) second (peek doc (c.at + 1)) small₂ refl k)

  pub word_none : (p : ℕ) → Passed doc c first second (Err p) → word_r (first ∷ second ∷ []) c.at (drop c.at doc) ≡ bad p
  unfolding Passed
  word_none p h = word_fails p h

pub passed_in : (doc : List ℕ) (c n : Cursor) (first second : ℕ) → second < 256 → Passed doc c first second (Ok n) → (n ≡ onward c 2) × (c.at + 2 ≤ length doc)
unfolding Passed
passed_in doc c n first second l h = let i = peek_in doc (c.at + 1) second h.2 l in (h.0, omega arith)
