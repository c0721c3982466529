-- A character below 128 is one byte; where no character begins, it is refused at once.
use Rattle.std.specs.Prelude.{◌≡◌, refl, List, [], ◌∷◌, ◌⊎◌, Bool, true, false, ℕ, suc, ◌≤◌}
use Rattle.std.proofs.Common.{ap, ◌∙◌, inl, inr, arith}
use Rattle.exact.specs.Class.{clash, or, Class, is, within, ◌to◌, sub, inside, or_of, range_of}
use Rattle.exact.specs.Out.{ok, bad}
use Rattle.exact.specs.Run.{run_l}
use Rattle.language.specs.Characters.{ascii}
use Rattle.utf8.specs.Utf8.{table, live, full, Classes, found, next, start, done, char_r, char_s}
use Rattle.utf8.specs.States.{low_byte}

ascii_low : (b : ℕ) → is ascii b ≡ true → b ≤ 127
ascii_low b e = by (or_of (within (10 to 10) b) (or (within (32 to 126) b) false) e)
  where
    other : (within (32 to 126) b ≡ true) ⊎ (false ≡ true) → b ≤ 127
    other (inl x) = let h = range_of 32 126 b x in omega arith
    other (inr x) = absurd (clash x refl)

    by : (within (10 to 10) b ≡ true) ⊎ (or (within (32 to 126) b) false ≡ true) → b ≤ 127
    by (inl x) = let h = range_of 10 10 b x in omega arith
    by (inr x) = other (or_of (within (32 to 126) b) false x)

module _ (c : Class) where
  module _ (low : sub c ascii ≡ true) (b : ℕ) (e : is c b ≡ true) where
    plain_next : next c start b ≡ done
    plain_next = low_byte c b (ascii_low b (inside c ascii b low e)) ∙ rw e refl

    pub char_first : is (char_s c).first b ≡ true
    char_first = found (table c start) b (ap live plain_next)

    ended : (s : List ℕ) (at : ℕ) → run_l (next c) full live s done at ≡ ok [] at s
    ended [] at = refl
    ended (b ∷ s) at = refl

    pub char_plain : (at : ℕ) (s : List ℕ) → char_r c at (b ∷ s) ≡ ok (b ∷ []) (suc at) s
    char_plain at s = rw (plain_next, ended s (suc at)) refl

  pub char_none : (at b : ℕ) (s : List ℕ) → is (Classes (table c start)) b ≡ false → char_r c at (b ∷ s) ≡ bad at
  char_none at b s e = by (live (next c start b)) refl
    where
      by : (x : Bool) → live (next c start b) ≡ x → char_r c at (b ∷ s) ≡ bad at
      by true x = absurd (clash (found (table c start) b x) e)
      by false x = rw x refl
