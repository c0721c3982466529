-- INLINE VALUES in their bytes. Assumes nothing.
use Rattle.std.specs.Prelude.{◌≡◌, List, [], ◌∷◌, Bool, false, ℕ, zero, suc, ◌+◌, ◌≤◌}
use Rattle.std.proofs.Common.{arith}
use Rattle.notation.specs.Lang.{Lang}
use Rattle.language.specs.Tree.{Tree}
use Rattle.language.specs.Inline.{Listed, InlineArray, InlinePair, InlineObject, Scalar, Value}
use Rattle.spans.specs.Every.{Every, Extends, ret_every, here_then, byte_then, seq_every, bind_every, via, alt_every, star_every, word_then}
use Rattle.spans.specs.Formed.{Formed}
use Rattle.spans.specs.Lies.{LiesIn, Lies, ElementsLie, PairsLie, elements_none, pairs_none}

-- As with a comma and a space between, up to a closing byte
pub listed_every : {X : Type 0} {A : Lang X} (close : ℕ) (I : ℕ → List X → ℕ → Type 0) → ((at : ℕ) → I at [] at) → Extends I A → (at : ℕ) {R : List X → ℕ → Type 0}
    → ((vs : List X) (m : ℕ) → I at vs m → R vs (suc m)) → Every (Listed close A) at R
listed_every close I none more at k =
    alt_every
    (byte_then (λ b. ret_every (k [] at (none at))))
    (bind_every
    (more at at (omega arith))
    (λ v m f. bind_every
    (star_every I none (λ n. word_then (44 ∷ 32 ∷ []) (λ o h. more n o (omega arith))) m)
    (λ vs e h. byte_then (λ b. ret_every (k _ e (f vs e h))))))
