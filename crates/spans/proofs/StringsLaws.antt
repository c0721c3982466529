-- QUOTED STRINGS, KEYS AND INLINE BYTES in their bytes. Assumes nothing.
use Rattle.std.specs.Prelude.{[], ◌∷◌, ℕ, suc, ◌<◌}
use Rattle.std.proofs.Common.{arith}
use Rattle.notation.specs.Class.{Class}
use Rattle.notation.specs.Lang.{Lang}
use Rattle.language.specs.Kind.{STRING, BYTES, KEY}
use Rattle.language.specs.Tree.{Decoded, unescaped, Tree, leaf}
use Rattle.language.specs.Strings.{hex_number, Code, Escape, SingleEscape, Between, Quoted, Spanned, String, Key, Pair, Pairs, InlineBytes}
use Rattle.spans.specs.Every.{Every, ret_every, here_then, byte_then, bind_every, via, map_every, alt_every, such_every, word_then}
use Rattle.spans.specs.Formed.{Formed, IsKey, formed_text, is_a_key}
use Rattle.spans.specs.Lies.{Lies}
use Rattle.spans.proofs.LiesLaws.{leaf_lies}
use Rattle.spans.specs.Texts.{Fits, FitsText, SomeText, Steps, star_fits, plus_some, plain_fit, plain_fits, star_together, byte_steps, option_fits, char_fits, utf8_four}
use Rattle.spans.specs.Strings.{pairs_fits, quoted_some}

-- a text with its span
spanned_lies : {F : Tree → Type 0} {A : Lang Decoded} (kind : ℕ) → ((a e : ℕ) (s : Decoded) → F (leaf kind a e s)) → (at : ℕ) → Every A at (SomeText at)
    → Every (Spanned kind A) at (Lies F 0 at)
spanned_lies {F} kind f at g = here_then (bind_every g (λ s e h. here_then (ret_every (by s e h.0 h.1))))
  where
    by : (s : Decoded) (e : ℕ) → FitsText at s e → at < e → Lies F 0 at (leaf kind at e s) e
    by s e h k = leaf_lies (f at e s) k (omega arith) (omega arith) (omega arith)

pub string_lies : (at : ℕ) → Every String at (Lies Formed 0 at)
string_lies at = spanned_lies STRING (λ a e s. formed_text (omega arith) (omega arith)) at (quoted_some at)

pub key_lies : (at : ℕ) → Every Key at (Lies IsKey 0 at)
key_lies at = spanned_lies KEY (λ a e s. is_a_key) at (alt_every (map_every unescaped (via (plus_some byte_steps at) (λ s m h. (plain_fit at s h.0, h.1)))) (quoted_some at))

pub inline_bytes_lies : (at : ℕ) → Every InlineBytes at (Lies Formed 0 at)
inline_bytes_lies at =
    spanned_lies
    BYTES
    (λ a e s. formed_text (omega arith) (omega arith))
    at
    (byte_then (λ b. bind_every (option_fits (suc at) (pairs_fits (suc at))) (λ bs m h. byte_then (λ c. ret_every (omega arith, omega arith)))))
