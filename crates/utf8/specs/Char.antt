-- The machine's words are the characters of 01, given by their scalar values and `utf8`: the reader is exact for `Char`. Assumes nothing.
use Rattle.std.specs.Prelude.{◌≡◌, refl, List, [], ◌∷◌, ◌++◌, ℕ, suc, ◌+◌, length}
use Rattle.std.proofs.Common.{ap, subst, ◌∙◌, arith}
use Rattle.exact.specs.Class.{Class}
use Rattle.exact.specs.Comb.{exact_iff}
use Rattle.exact.specs.Ll.{Ll}
use Rattle.exact.specs.Run.{Run, past, run_of, run_full, stay, ahead}
use Rattle.language.specs.Characters.{Char, char, utf8}
use Rattle.utf8.specs.Utf8.{At, live, full, next, start, Spelt, spelt_ll}
use Rattle.utf8.specs.Spelling.{utf8_full}
pub use Rattle.utf8.specs.Utf8.{char_r, char_s}

module _ (plain : Class) where
  pub past_is : (w : List ℕ) (at : ℕ) → past (next plain) full live at w ≡ at + length w
  past_is [] at = omega arith
  past_is (b ∷ w) at = past_is w (suc at) ∙ omega arith

  pub char_spelt : {at : ℕ} {s w : List ℕ} {at' : ℕ} {t : List ℕ} → Char plain at s w at' t → Spelt plain at s w at' t
  char_spelt (char {at = at} {t = t} v e) =
      subst (λ a. Spelt plain at (utf8 v ++ t) (utf8 v) a t) (past_is (utf8 v) at) (run_of (next plain) full live (utf8 v) start at t (utf8_full plain v e))

  pub run_shape : {σ : At} {at : ℕ} {s w : List ℕ} {at' : ℕ} {t : List ℕ} → Run (next plain) full live σ at s w at' t → (s ≡ w ++ t) × (at' ≡ at + length w)
  run_shape (stay {at = at} e) = (refl, omega arith)
  run_shape (ahead {b = b} x) = let i = run_shape x in (ap (b ∷◌) i.0, i.1 ∙ omega arith)
