-- Strings, keys and hex pairs are whole allowed characters.
use Rattle.std.specs.Prelude.{◌≡◌, refl, [], ◌∷◌, true, ℕ, ◌+◌, ◌*◌}
use Rattle.notation.specs.Lang.{Lang}
use Rattle.language.specs.Kind.{STRING, BYTES, KEY}
use Rattle.language.specs.Tree.{Decoded, unescaped, escaped, together, leaf}
use Rattle.language.specs.Characters.{utf8, ascii}
use Rattle.language.specs.Strings.{hexdigit, hexval, hex_number, Code, lettered, stands_for, Escape, SingleEscape, Between, Quoted, Spanned, String, keybyte, Key, lowhex, Pair, Pairs, InlineBytes}
use Rattle.exact.specs.Class.{Class, only, sub}
use Rattle.utf8.specs.Clean.{Clean, ret_clean, here_clean, byte_clean, char_clean, seq_clean, alt_clean, star_clean, plus_clean, map_clean, such_clean, word_clean}
use Rattle.strings.specs.Quoted.{singled, unquoted, unsingle}

spanned_clean : (kind : ℕ) {A : Lang Decoded} → Clean A → Clean (Spanned kind A)
spanned_clean kind c = seq_clean here_clean λ a. seq_clean c λ s. seq_clean here_clean λ e. ret_clean (leaf kind a e s)

pub code_clean : Clean Code
code_clean = such_clean _ (plus_clean (byte_clean hexdigit refl))

pub escape_clean : Clean Escape
escape_clean =
    seq_clean (byte_clean (only 92) refl) λ _.
    alt_clean
    (seq_clean (byte_clean lettered refl) λ b. ret_clean (escaped (stands_for b ∷ [])))
    (seq_clean (word_clean (117 ∷ 123 ∷ []) refl) λ _. seq_clean code_clean λ ds. seq_clean (byte_clean (only 125) refl) λ _. ret_clean (escaped (utf8 (hex_number 0 ds))))

pub single_escape_clean : Clean SingleEscape
single_escape_clean =
    seq_clean (byte_clean (only 92) refl) λ _.
    alt_clean
    (seq_clean (byte_clean singled refl) λ b. ret_clean (escaped (b ∷ [])))
    (seq_clean (char_clean unsingle refl) λ c. ret_clean (unescaped (92 ∷ c)))

between_clean : (quote : ℕ) {E : Lang Decoded} (others : Class) → sub (only quote) ascii ≡ true → sub others ascii ≡ true → Clean E → Clean (Between quote E others)
between_clean quote others q h c =
    seq_clean (byte_clean (only quote) q) λ _. seq_clean (star_clean (alt_clean c (map_clean unescaped (char_clean others h)))) λ ps. seq_clean (byte_clean (only quote) q) λ _. ret_clean (together ps)

pub quoted_clean : Clean Quoted
quoted_clean = alt_clean (between_clean 34 unquoted refl refl escape_clean) (between_clean 39 unsingle refl refl single_escape_clean)

pub string_clean : Clean String
string_clean = spanned_clean STRING quoted_clean

pub key_clean : Clean Key
key_clean = spanned_clean KEY (alt_clean (map_clean unescaped (plus_clean (byte_clean keybyte refl))) quoted_clean)

pub pair_clean : Clean Pair
pair_clean = seq_clean (byte_clean lowhex refl) λ h. seq_clean (byte_clean lowhex refl) λ l. ret_clean (16 * hexval h + hexval l)

pub pairs_clean : Clean Pairs
pairs_clean = seq_clean pair_clean λ p. seq_clean (star_clean (alt_clean pair_clean (seq_clean (byte_clean (only 32) refl) λ _. pair_clean))) λ ps. ret_clean (p ∷ ps)

pub inline_bytes_clean : Clean InlineBytes
inline_bytes_clean =
    spanned_clean BYTES (seq_clean (byte_clean (only 60) refl) λ _. seq_clean (alt_clean pairs_clean (ret_clean [])) λ bs. seq_clean (byte_clean (only 62) refl) λ _. ret_clean (unescaped bs))
