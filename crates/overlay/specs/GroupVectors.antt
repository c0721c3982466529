-- Worked examples of groupings, computed: fleet, region and site, and what both groupings give.
use Rattle.std.specs.Prelude.{◌≡◌, refl, [], ◌∷◌}
use Rattle.language.specs.Tree.{Tree, text_of}
use Rattle.language.specs.Alike.{unspan}
use Rattle.overlay.specs.Overlay.{pairs_of, same, value_of, new_ones, Laid, laid, lay, overlay}
use Rattle.overlay.specs.Vectors.{a, b, c, digit, null, array, object}
use Rattle.overlay.specs.Grouping.{lower_two_first, upper_two_first}

unfoldable lower_given : Tree → Tree → Tree → Laid
unfolding overlay lay pairs_of same value_of new_ones unspan text_of
lower_given fleet region site = lower_two_first fleet region site

unfoldable upper_given : Tree → Tree → Tree → Laid
unfolding overlay lay pairs_of same value_of new_ones unspan text_of
upper_given fleet region site = upper_two_first fleet region site

-- `{a: {b: 1}}`, `{a: 1}` and `{a: {c: 1}}`: a clash, whichever two are laid first
g₁ : lower_given (object (a (object (b (digit 49) ∷ [])) ∷ [])) (object (a (digit 49) ∷ [])) (object (a (object (c (digit 49) ∷ [])) ∷ []))
    ≡ upper_given (object (a (object (b (digit 49) ∷ [])) ∷ [])) (object (a (digit 49) ∷ [])) (object (a (object (c (digit 49) ∷ [])) ∷ []))
unfolding lower_given upper_given
g₁ = refl

-- `{a: 1}`, `{a: []}` and `{a: null}`: `{a: null}`
g₂ : lower_given (object (a (digit 49) ∷ [])) (object (a (array []) ∷ [])) (object (a null ∷ []))
    ≡ upper_given (object (a (digit 49) ∷ [])) (object (a (array []) ∷ [])) (object (a null ∷ []))
unfolding lower_given upper_given
g₂ = refl

-- `{a: {c: 1}}`, `{b: 2}` and `{c: 3, a: {b: 4}}`: `{a: {c: 1, b: 4}, b: 2, c: 3}`
g₃ : lower_given (object (a (object (c (digit 49) ∷ [])) ∷ [])) (object (b (digit 50) ∷ [])) (object (c (digit 51) ∷ a (object (b (digit 52) ∷ [])) ∷ []))
    ≡ laid (object (a (object (c (digit 49) ∷ b (digit 52) ∷ [])) ∷ b (digit 50) ∷ c (digit 51) ∷ []))
unfolding lower_given
g₃ = refl

g₄ : upper_given (object (a (object (c (digit 49) ∷ [])) ∷ [])) (object (b (digit 50) ∷ [])) (object (c (digit 51) ∷ a (object (b (digit 52) ∷ [])) ∷ []))
    ≡ laid (object (a (object (c (digit 49) ∷ b (digit 52) ∷ [])) ∷ b (digit 50) ∷ c (digit 51) ∷ []))
unfolding upper_given
g₄ = refl
