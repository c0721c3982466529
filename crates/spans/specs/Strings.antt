-- QUOTED STRINGS, KEYS AND INLINE BYTES in their bytes. Assumes nothing.
use Rattle.std.specs.Prelude.{[], ◌∷◌, ℕ, suc, ◌<◌}
use Rattle.std.proofs.Common.{arith}
use Rattle.notation.specs.Class.{Class}
use Rattle.notation.specs.Lang.{Lang}
use Rattle.language.specs.Kind.{STRING, BYTES, KEY}
use Rattle.language.specs.Tree.{Decoded, unescaped, Tree, leaf}
use Rattle.language.specs.Strings.{hex_number, Code, Escape, SingleEscape, Between, Quoted, Spanned, String, Key, Pair, Pairs, InlineBytes}
use Rattle.spans.specs.Every.{Every, ret_every, here_then, byte_then, bind_every, via, map_every, alt_every, such_every, word_then}
use Rattle.spans.specs.Formed.{Formed, IsKey, formed_text, is_a_key}
use Rattle.spans.specs.Lies.{Lies}
use Rattle.spans.specs.Texts.{Fits, FitsText, SomeText, Steps, star_fits, plus_some, plain_fit, plain_fits, star_together, byte_steps, option_fits, char_fits, utf8_four}

-- "`\u{…}`": five bytes or more for at most four, and an escape
code_steps : (at : ℕ) → Every Code at (Steps at)
code_steps at = such_every (via (plus_some byte_steps at) (λ v m h. h.1))

pub escape_fits : (at : ℕ) → Every Escape at (FitsText at)
escape_fits at =
    byte_then
    (λ b. alt_every
    (byte_then (λ c. ret_every (omega arith)))
    (word_then (117 ∷ 123 ∷ []) (λ m h. bind_every (code_steps m) (λ ds n k. byte_then (λ c. ret_every (omega (arith, utf8_four (hex_number 0 ds))))))))

pub single_escape_fits : (at : ℕ) → Every SingleEscape at (FitsText at)
single_escape_fits at =
    byte_then (λ b. alt_every (byte_then (λ c. ret_every (omega arith))) (bind_every (char_fits (suc at)) (λ s m h. ret_every (omega arith))))

pub between_some : (quote : ℕ) {E : Lang Decoded} (others : Class) → ((at : ℕ) → Every E at (FitsText at)) → (at : ℕ) → Every (Between quote E others) at (SomeText at)
between_some quote others g at =
    byte_then
    (λ b. bind_every (star_together (λ m. alt_every (g m) (plain_fits (char_fits m))) (suc at)) (λ ps m h. byte_then (λ c. ret_every (omega arith, omega arith))))

pub quoted_some : (at : ℕ) → Every Quoted at (SomeText at)
quoted_some at = alt_every (between_some _ _ escape_fits at) (between_some _ _ single_escape_fits at)

-- hex pairs
pair_steps : (at : ℕ) → Every Pair at (Steps at)
pair_steps at = byte_then (λ h. byte_then (λ l. ret_every (omega arith)))

pub pairs_fits : (at : ℕ) → Every Pairs at (Fits at)
pairs_fits at =
    bind_every
    (pair_steps at)
    (λ p m h. bind_every
    (star_fits (λ n. alt_every (pair_steps n) (byte_then (λ b. via (pair_steps (suc n)) (λ v o k. omega arith)))) m)
    (λ ps e k. ret_every (omega arith)))
