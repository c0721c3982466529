-- What may follow a number: a byte that is no space and no byte of a number, or two spaces. Assumes nothing.
use Rattle.std.specs.Prelude.{◌≡◌, refl, List, [], ◌∷◌, Bool, true, false, ℕ}
use Rattle.std.proofs.Common.{inl, inr}
use Rattle.exact.specs.Class.{Starts, Class, is, only, apart, none}
use Rattle.language.specs.Scalars.{digit}
use Rattle.numbers.specs.Looked.{on_none}
use Rattle.numbers.specs.Digits.{gap}
use Rattle.numbers.specs.Plain.{NumberOn, number_more}

pub number_over : (spaced : Bool) (c : Class) (t : List ℕ) → apart c number_more ≡ true → apart c (only 32) ≡ true → Starts (is c) t → NumberOn spaced t → ⊥
number_over spaced c t = on_none (gap spaced) c number_more t

pub number_over_end : (spaced : Bool) → NumberOn spaced [] → ⊥
number_over_end spaced (inl x) = x
number_over_end false (inr x) = x
number_over_end true (inr x) = x

-- a space, and then no digit
pub number_over_space : (spaced : Bool) (b c : ℕ) (t : List ℕ) → is (only 32) b ≡ true → (is digit c ≡ true → ⊥) → NumberOn spaced (b ∷ c ∷ t) → ⊥
number_over_space spaced b c t e n (inl x) = none (only 32) number_more b refl e x
number_over_space false b c t e n (inr x) = x
number_over_space true b c t e n (inr x) = n x.1
