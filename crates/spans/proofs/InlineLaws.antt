-- INLINE VALUES in their bytes. Assumes nothing.
use Rattle.std.specs.Prelude.{◌≡◌, List, [], ◌∷◌, Bool, false, ℕ, zero, suc, ◌+◌, ◌≤◌}
use Rattle.std.proofs.Common.{arith}
use Rattle.notation.specs.Lang.{Lang}
use Rattle.language.specs.Tree.{Tree}
use Rattle.language.specs.Inline.{Listed, InlineArray, InlinePair, InlineObject, Scalar, Value}
use Rattle.spans.specs.Every.{Every, Extends, ret_every, here_then, byte_then, seq_every, bind_every, via, alt_every, star_every, word_then}
use Rattle.spans.specs.Formed.{Formed}
use Rattle.spans.specs.Lies.{LiesIn, Lies, ElementsLie, PairsLie, elements_none, pairs_none}
use Rattle.spans.proofs.LiesLaws.{lies_from, elements_more, pairs_more, inline_array_lies, inline_object_lies}
use Rattle.spans.proofs.ScalarsLaws.{plain_lies}
use Rattle.spans.proofs.StringsLaws.{string_lies, key_lies, inline_bytes_lies}
use Rattle.spans.specs.Inline.{listed_every}

-- values one after another
pub elements_extend : {A : Lang Tree} {n j : ℕ} → ((at : ℕ) → Every A at (LiesIn Formed n j at)) → Extends ElementsLie A
elements_extend g at b h = via (g b) (λ v m x vs e y. elements_more (lies_from h x) y)

module _ {A : Lang Tree} (g : (at : ℕ) → Every A at (Lies Formed 0 at)) where
  array_every : (at : ℕ) → Every (InlineArray A) at (Lies Formed 0 at)
  array_every at =
      here_then
      (byte_then (λ b. seq_every (listed_every 93 ElementsLie elements_none (elements_extend g) (suc at) (λ vs m x. here_then (ret_every (inline_array_lies x))))))

  pub pairs_extend : Extends PairsLie (InlinePair A)
  pairs_extend at b h =
      bind_every
      (key_lies b)
      (λ k m x. word_then (58 ∷ 32 ∷ []) (λ n l. bind_every (g n) (λ v o y. ret_every (λ vs e z. pairs_more (lies_from h x) (on l) y z))))
    where
      on : {m n : ℕ} → n ≡ m + 2 → suc (suc m) ≤ n
      on h = omega arith

  object_every : (at : ℕ) → Every (InlineObject A) at (Lies Formed 0 at)
  object_every at =
      here_then
      (byte_then (λ b. seq_every (listed_every 125 PairsLie pairs_none pairs_extend (suc at) (λ vs m x. here_then (ret_every (inline_object_lies x))))))

scalar_lies : (spaced : Bool) (at : ℕ) → Every (Scalar spaced) at (Lies Formed 0 at)
scalar_lies spaced at = alt_every (plain_lies spaced at) (alt_every (string_lies at) (inline_bytes_lies at))

pub value_lies : (spaced : Bool) (k at : ℕ) → Every (Value spaced k) at (Lies Formed 0 at)
value_lies spaced zero at = scalar_lies spaced at
value_lies spaced (suc k) at = alt_every (scalar_lies spaced at) (alt_every (array_every (value_lies false k) at) (object_every (value_lies false k) at))
